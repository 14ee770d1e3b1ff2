-- What is found in a network is there.
use Rattle.std.proofs.Common.{◌≡◌, ℕ, suc, ◌+◌, ◌<◌, Bool, true, false, not, ◌==◌, nat_lt, List, [], ◌∷◌, length, slice_get, position, Option, Some, None, refl, sym, ap, ◌∙◌, one-add, arith}
use Rattle.std.specs.Prelude.{option_map}
use Rattle.std.specs.List.{prefix_len}
use Rattle.std.specs.Str.{bytes_eq}
use Rattle.std.proofs.lemmas.Bool.{and_parts, eqb-true, lt-ltb}
use Rattle.wi_labels.specs.declared.label.Class.{Class}
use Rattle.wi_labels.specs.declared.label.Class.TheVariants.{Mpls, Smpls, Ip}
use Rattle.wi_labels.specs.declared.label.Label.{Label}
use Rattle.wi_labels.specs.Header.{Entry, same_class}
use Rattle.wi_net.specs.declared.parts.Link.{Link}
use Rattle.wi_net.specs.declared.parts.LinkId.{LinkId}
use Rattle.wi_net.specs.declared.parts.NameId.{NameId}
use Rattle.wi_net.specs.declared.parts.RouterId.{RouterId}
use Rattle.wi_net.specs.Names.{place}
use Rattle.wi_net.specs.Ends.{is_out, is_in}
use Rattle.wi_net.specs.Net.{Net, label_known}
use Rattle.wi_net.specs.Finding.{find_label, find_out, find_in}
use Rattle.wi_net.specs.Network.{leaves}
use Rattle.wi_net.proofs.KeptLists.{place_before, there_from, same_flip}
use Rattle.wi_net.proofs.MemberLemmas.{position_found}
use Rattle.wi_netjson.specs.Operations.{labelled}

-- where a beginning that doesn't pass ends within a list, something passes
stops : {X : Type 0} (p : X → Bool) (xs : List X) → prefix_len (λ x. not (p x)) xs < length xs → (x : X) × (slice_get xs (prefix_len (λ x. not (p x)) xs) ≡ Some x) × (p x ≡ true)
stops p [] lt = absurd (omega (arith, lt))
stops {X} p (x ∷ xs) lt = go (p x) refl (stops p xs)
  where
    go : (b : Bool) → p x ≡ b → (prefix_len (λ y. not (p y)) xs < length xs → (y : X) × (slice_get xs (prefix_len (λ z. not (p z)) xs) ≡ Some y) × (p y ≡ true)) → (y : X) × (slice_get (x ∷ xs) (prefix_len (λ z. not (p z)) (x ∷ xs)) ≡ Some y) × (p y ≡ true)
    go true e ih = (x, rw e refl, e)
    go false e ih =
        let less : 1 + prefix_len (λ z. not (p z)) xs < suc (length xs) = rw e at lt in
        let later : slice_get (x ∷ xs) (prefix_len (λ z. not (p z)) (x ∷ xs)) ≡ slice_get xs (prefix_len (λ z. not (p z)) xs) = rw (e, one-add) refl in
        let found = ih (omega (arith, less)) in
        (found.0, later ∙ found.1, found.2)

-- what stands at the first place that passes, passes
pub passes_at : {X : Type 0} (p : X → Bool) (xs : List X) (i : ℕ) → position p xs ≡ Some i → (x : X) × (slice_get xs i ≡ Some x) × (p x ≡ true)
passes_at p xs i e =
    let at = position_found p xs i e in
    let found = stops p xs (omega (arith, at.0, at.1)) in
    (found.0, ap (λ k. slice_get xs k) at.0 ∙ found.1, found.2)

link_of : ℕ → LinkId
link_of k = record { 0 = k }

-- a link that is found leaves the router
pub out_leaves : (net : Net) (r : RouterId) (name : List ℕ) (e : LinkId) → find_out net r name ≡ Some e → leaves net r e ≡ true
unfolding link_of
out_leaves net r name e found = by_name (place net.interfaces name) refl
  where
    by_place : (n : NameId) (o : Option ℕ) → position (is_out r n) net.links ≡ o → option_map link_of o ≡ Some e → leaves net r e ≡ true
    by_place n (Some k) at is =
        let there = passes_at (is_out r n) net.links k at in
        let made : link_of k ≡ e = cc in
        let same : k ≡ e.0 = ap (λ (x : LinkId). x.0) made in
        let parts = and_parts (r.0 == (there.0).from.0) (n.0 == (there.0).out_if.0) there.2 in
        there_from (λ (l : Link). l.from.0 == r.0) (slice_get net.links e.0) there.0 (ap (λ i. slice_get net.links i) (sym same) ∙ there.1) (same_flip (there.0).from.0 r.0 ∙ parts.0)
    by_place n None at is = cc

    by_name : (o : Option ℕ) → place net.interfaces name ≡ o → leaves net r e ≡ true
    by_name (Some n) at = by_place (record { 0 = n }) (position (is_out r (record { 0 = n })) net.links) refl (rw at at found)
    by_name None at = let none : None ≡ Some e = rw at at found in cc

-- a link that is found reaches the router
pub in_reaches : (net : Net) (r : RouterId) (name : List ℕ) (e : LinkId) → find_in net r name ≡ Some e → (l : Link) × (slice_get net.links e.0 ≡ Some l) × (l.to ≡ r)
unfolding link_of
in_reaches net r name e found = by_name (place net.interfaces name) refl
  where
    router_of : ℕ → RouterId
    router_of k = record { 0 = k }

    by_place : (n : NameId) (o : Option ℕ) → position (is_in r n) net.links ≡ o → option_map link_of o ≡ Some e → (l : Link) × (slice_get net.links e.0 ≡ Some l) × (l.to ≡ r)
    by_place n (Some k) at is =
        let there = passes_at (is_in r n) net.links k at in
        let made : link_of k ≡ e = cc in
        let same : k ≡ e.0 = ap (λ (x : LinkId). x.0) made in
        let parts = and_parts (r.0 == (there.0).to.0) (n.0 == (there.0).in_if.0) there.2 in
        (there.0, ap (λ i. slice_get net.links i) (sym same) ∙ there.1, ap router_of (sym (eqb-true r.0 (there.0).to.0 parts.0)))
    by_place n None at is = cc

    by_name : (o : Option ℕ) → place net.interfaces name ≡ o → (l : Link) × (slice_get net.links e.0 ≡ Some l) × (l.to ≡ r)
    by_name (Some n) at = by_place (record { 0 = n }) (position (is_in r (record { 0 = n })) net.links) refl (rw at at found)
    by_name None at = let none : None ≡ Some e = rw at at found in cc

-- a label that is found is one of the network's
pub label_within : (net : Net) (name : List ℕ) (l : Label) → find_label net name ≡ Some l → nat_lt l.0 (length net.labels) ≡ true
label_within net name l found = by_name (place net.labels name) refl
  where
    label_of : ℕ → Label
    label_of k = record { 0 = k }

    by_name : (o : Option ℕ) → place net.labels name ≡ o → nat_lt l.0 (length net.labels) ≡ true
    by_name (Some n) at =
        let given : Some (label_of n) ≡ Some l = rw at at found in
        let made : label_of n ≡ l = cc in
        let same : n ≡ l.0 = ap (λ (x : Label). x.0) made in
        lt-ltb l.0 (length net.labels) (omega (arith, same, place_before (bytes_eq name) net.labels n at))
    by_name None at = let none : None ≡ Some l = rw at at found in cc

self_class : (class : Class) → same_class class class ≡ true
self_class Mpls = refl
self_class Smpls = refl
self_class Ip = refl

-- a label that is found with its class is known with it
pub labelled_known : (net : Net) (name : List ℕ) (l : Entry) → labelled net name ≡ Some l → label_known net.classes l ≡ true
labelled_known net name l found = by_label (find_label net name) refl
  where
    with_class : (m : Label) (o : Option Class) → slice_get net.classes m.0 ≡ o → option_map (λ c. let pair : Entry = (m, c) in pair) o ≡ Some l → label_known net.classes l ≡ true
    with_class m (Some class) at is =
        let made : (let pair : Entry = (m, class) in pair ≡ l) = cc in
        let label : m ≡ l.0 = ap (λ (x : Entry). x.0) made in
        let same : class ≡ l.1 = ap (λ (x : Entry). x.1) made in
        there_from (λ c. same_class c l.1) (slice_get net.classes l.0.0) class (ap (λ (x : Label). slice_get net.classes x.0) (sym label) ∙ at) (ap (λ c. same_class class c) (sym same) ∙ self_class class)
    with_class m None at is = cc

    by_label : (o : Option Label) → find_label net name ≡ o → label_known net.classes l ≡ true
    by_label (Some m) at = with_class m (slice_get net.classes m.0) refl (rw at at found)
    by_label None at = let none : None ≡ Some l = rw at at found in cc
