-- Links and labels that are a network's.
use Rattle.std.proofs.Common.{◌≡◌, ℕ, ◌+◌, ◌<◌, Bool, true, false, List, [], ◌∷◌, length, slice_get, Option, Some, None, Result, Ok, Err, refl, subst, arith}
use Rattle.std.specs.Prelude.{◌&&◌}
use Rattle.std.specs.List.{list_all}
use Rattle.std.specs.Option.{option_map, option_and_then}
use Rattle.std.specs.Result.{result_ok}
use Rattle.std.proofs.lemmas.Bool.{and_parts, and_from}
use Rattle.std.proofs.lemmas.Option.{slice_get_within}
use Rattle.wi_labels.specs.declared.label.Class.{Class}
use Rattle.wi_labels.specs.declared.ops.Op.{Op}
use Rattle.wi_labels.specs.declared.ops.Op.TheVariants.{Swap, Push, Pop}
use Rattle.wi_labels.specs.Header.{Entry, after_op, outcome, allowed, effect}
use Rattle.wi_net.specs.declared.parts.LinkId.{LinkId}
use Rattle.wi_net.specs.declared.parts.Member.{Member}
use Rattle.wi_labels.specs.declared.label.Label.{Label}
use Rattle.wi_net.specs.Net.{Net, is_link, label_known, labels_known, entry}
use Rattle.wi_net.specs.Network.{IsNetwork, op_known}
use Rattle.wi_net.specs.private.Network.{is_member_of}
use Rattle.wi_net.proofs.KeptLists.{all_get}
use Rattle.wi_net.proofs.GroupLemmas.{entry_groups}
use Rattle.wi_world.specs.declared.run.Step.{Step}
use Rattle.wi_world.specs.Moves.{Location, through, moved}

-- a label of a header that the network knows has a name
pub known_label : (net : Net) (h : List Entry) (i : ℕ) (l : Entry) → IsNetwork net → labels_known net h ≡ true → slice_get h i ≡ Some l → l.0.0 < length net.labels
known_label net h i l k known e = go (slice_get net.classes l.0.0) refl
  where
    here : label_known net.classes l ≡ true
    here = all_get (λ x. label_known net.classes x) h i l known e

    go : (o : Option Class) → slice_get net.classes l.0.0 ≡ o → l.0.0 < length net.labels
    go None eo = let none : false ≡ true = rw eo at here in cc
    go (Some c) eo = let within = slice_get_within net.classes l.0.0 c eo in omega (arith, within, k.classes)

-- a member of a group of an entry has a link of the network, and its operations have labels of it
pub member_kept_at : (net : Net) (e : LinkId) (l : Label) (j i : ℕ) (g : List Member) (m : Member) → IsNetwork net → slice_get (entry net e l) j ≡ Some g → slice_get g i ≡ Some m → (is_link net m.link ≡ true) × (list_all (op_known net) m.ops ≡ true)
member_kept_at net e l j i g m k at here =
    let kept : list_all (is_member_of net) g ≡ true = all_get (λ x. list_all (is_member_of net) x) (entry net e l) j g (entry_groups net e l k) at in
    and_parts (is_link net m.link) (list_all (op_known net) m.ops) (all_get (is_member_of net) g i m kept here)

-- operations with known labels leave a known header known
op_keeps : (net : Net) (op : Op) (h next : List Entry) → op_known net op ≡ true → labels_known net h ≡ true → after_op op h ≡ Some next → labels_known net next ≡ true
op_keeps net op [] next o k e = cc
op_keeps net op (top ∷ below) next o k e = go (allowed op top.1) refl
  where
    rest : labels_known net below ≡ true
    rest = (and_parts (label_known net.classes top) (labels_known net below) k).1

    known : (op : Op) → op_known net op ≡ true → labels_known net (effect op top below) ≡ true
    known (Swap l c) o2 = and_from (label_known net.classes (l, c)) (labels_known net below) o2 rest
    known (Push l c) o2 = and_from (label_known net.classes (l, c)) (label_known net.classes top && labels_known net below) o2 k
    known Pop o2 = rest

    go : (b : Bool) → allowed op top.1 ≡ b → labels_known net next ≡ true
    go true a = let e2 : Some (effect op top below) ≡ Some next = rw a at e in let same : effect op top below ≡ next = cc in rw (← same) (known op o)
    go false a = let e2 : None ≡ Some next = rw a at e in cc

pub ops_keep : (net : Net) (at : ℕ) (ops : List Op) (h next : List Entry) → list_all (op_known net) ops ≡ true → labels_known net h ≡ true → outcome at ops h ≡ Ok next → labels_known net next ≡ true
ops_keep net at [] h next o k e = let same : h ≡ next = cc in rw (← same) k
ops_keep net at (op ∷ ops) h next o k e = go (after_op op h) refl (λ mid. ops_keep net (at + 1) ops mid next parts.1)
  where
    parts : (op_known net op ≡ true) × (list_all (op_known net) ops ≡ true)
    parts = and_parts (op_known net op) (list_all (op_known net) ops) o

    go : (m : Option (List Entry)) → after_op op h ≡ m → ((mid : List Entry) → labels_known net mid ≡ true → outcome (at + 1) ops mid ≡ Ok next → labels_known net next ≡ true) → labels_known net next ≡ true
    go None em ih = let bad : Err at ≡ Ok next = rw (em, outcome) at e in cc
    go (Some mid) em ih = ih mid (op_keeps net op h mid parts.0 k em) (rw (em, outcome) at e)

-- a place whose link and labels are the network's
abbrev pub IsKnownPlace : Net → Location → Type 0
IsKnownPlace net at = (is_link net at.0 ≡ true) × (labels_known net at.1 ≡ true)

-- a step leads from known labels to such a place
pub moved_known : (net : Net) (e : LinkId) (h : List Entry) (step : Step) (next : Location) → IsNetwork net → labels_known net h ≡ true → moved net (e, h) step ≡ Some next → IsKnownPlace net next
moved_known net e [] step next k known is = let none : ◌≡◌ {A = Option Location} None (Some next) = is in cc
moved_known net e (top ∷ below) step next k known is = in_group (slice_get (entry net e top.0) step.group) refl is
  where
    by_member : (g : List Member) (m : Member) → slice_get (entry net e top.0) step.group ≡ Some g → slice_get g step.member ≡ Some m → (o : Result (List Entry) ℕ) → outcome 0 m.ops (top ∷ below) ≡ o
        → option_map {U = Location} (λ (h : List Entry). (m.link, h)) (result_ok o) ≡ Some next → IsKnownPlace net next
    by_member g m group here (Err i) did some = cc
    by_member g m group here (Ok h) did some =
        let kept : (is_link net m.link ≡ true) × (list_all (op_known net) m.ops ≡ true) = member_kept_at net e top.0 step.group step.member g m k group here in
        let same : ◌≡◌ {A = Location} (m.link, h) next = cc in
        subst (IsKnownPlace net) same (kept.0, ops_keep net 0 m.ops (top ∷ below) h kept.1 known did)

    in_group : (o : Option (List Member)) → slice_get (entry net e top.0) step.group ≡ o
        → option_and_then (λ (m : Member). through (top ∷ below) m) (option_and_then (λ (g : List Member). slice_get g step.member) o) ≡ Some next → IsKnownPlace net next
    in_group None group some = cc
    in_group (Some g) group some = of_group (slice_get g step.member) refl some
      where
        of_group : (o : Option Member) → slice_get g step.member ≡ o → option_and_then (λ (m : Member). through (top ∷ below) m) o ≡ Some next → IsKnownPlace net next
        of_group None here some = cc
        of_group (Some m) here some = by_member g m group here (outcome 0 m.ops (top ∷ below)) refl some
