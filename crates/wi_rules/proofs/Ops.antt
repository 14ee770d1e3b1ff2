-- Operations on a header, and what they write on its stack.
use Rattle.std.proofs.Common.{◌≡◌, ℕ, suc, ◌+◌, Bool, true, false, List, [], ◌∷◌, ◌++◌, slice_get, Option, Some, None, Result, Ok, Err, ◌⊎◌, inl, inr, refl, ap, sym, ◌∙◌}
use Rattle.std.specs.Prelude.{if◌then◌else◌}
use Rattle.std.proofs.lemmas.Bool.{and_parts, and_from}
use Rattle.wi_labels.specs.declared.label.Class.{Class}
use Rattle.wi_labels.specs.declared.label.Class.TheVariants.{Mpls, Smpls, Ip}
use Rattle.wi_labels.specs.declared.ops.Op.{Op}
use Rattle.wi_labels.specs.declared.ops.Op.TheVariants.{Swap, Push, Pop}
use Rattle.wi_labels.specs.Header.{Entry, allowed, effect, after_op, outcome, after_ops, same_class}
use Rattle.wi_net.specs.Net.{Net, label_known, labels_known}
use Rattle.wi_net.specs.Network.{op_known}
use Rattle.wi_pds.specs.declared.rule.Word2.{Word2}
use Rattle.wi_pds.specs.Runs.{symbols}
use Rattle.wi_rules.specs.Rules.{word_of, word_over}
use Rattle.wi_rules.proofs.Ends.{stack}

pub same_class_is : (c d : Class) → same_class c d ≡ true → c ≡ d
same_class_is Mpls Mpls h = refl
same_class_is Smpls Smpls h = refl
same_class_is Ip Ip h = refl
same_class_is _ _ h = cc

-- a known label has its class in the network
pub class_known : (classes : List Class) (l : Entry) → label_known classes l ≡ true → slice_get classes l.0.0 ≡ Some l.1
class_known classes l h = go (slice_get classes l.0.0) refl
  where
    go : (o : Option Class) → slice_get classes l.0.0 ≡ o → slice_get classes l.0.0 ≡ Some l.1
    go None e = let none : false ≡ true = rw e at h in cc
    go (Some c) e = e ∙ ap Some (same_class_is c l.1 (rw e at h))

effect_stack : (op : Op) (top : Entry) (below : List Entry) → symbols (word_of op (suc top.0.0)) ++ stack below ≡ stack (effect op top below)
effect_stack (Swap l c) top below = refl
effect_stack (Push l c) top below = refl
effect_stack Pop top below = refl

effect_known : (net : Net) (op : Op) (top : Entry) (below : List Entry) → op_known net op ≡ true → labels_known net (top ∷ below) ≡ true → labels_known net (effect op top below) ≡ true
effect_known net (Swap l c) top below o h = and_from (label_known net.classes (l, c)) (labels_known net below) o ((and_parts (label_known net.classes top) (labels_known net below) h).1)
effect_known net (Push l c) top below o h = and_from (label_known net.classes (l, c)) (labels_known net (top ∷ below)) o h
effect_known net Pop top below o h = (and_parts (label_known net.classes top) (labels_known net below) h).1

-- one operation, on a header and on its stack
pub record Wrote (net : Net) (op : Op) (top : Entry) (below next : List Entry) : Type 0 where
  pub word : Word2
  pub word_is : word_over net op top.0.0 ≡ Some word
  pub stack_is : symbols word ++ stack below ≡ stack next
  pub known : op_known net op ≡ true → labels_known net next ≡ true

pub wrote : (net : Net) (op : Op) (top : Entry) (below next : List Entry) → labels_known net (top ∷ below) ≡ true → after_op op (top ∷ below) ≡ Some next → Wrote net op top below next
wrote net op top below next k e = go (allowed op top.1) refl
  where
    class : slice_get net.classes top.0.0 ≡ Some top.1
    class = class_known net.classes top (and_parts (label_known net.classes top) (labels_known net below) k).0

    go : (b : Bool) → allowed op top.1 ≡ b → Wrote net op top below next
    go false a = let none : ◌≡◌ {A = Option (List Entry)} None (Some next) = rw a at e in cc
    go true a =
        let some : ◌≡◌ {A = Option (List Entry)} (Some (effect op top below)) (Some next) = rw a at e in
        let same : effect op top below ≡ next = cc in
        record {
          word = word_of op (suc top.0.0);
          word_is = rw class (rw a refl);
          stack_is = effect_stack op top below ∙ ap stack same;
          known = λ o. rw same at (effect_known net op top below o k);
        }

-- what is written over a label is of an operation that is defined there
pub record Did (net : Net) (op : Op) (top : Entry) (below : List Entry) (word : Word2) : Type 0 where
  pub next : List Entry
  pub next_is : after_op op (top ∷ below) ≡ Some next
  pub stack_is : symbols word ++ stack below ≡ stack next
  pub known : op_known net op ≡ true → labels_known net next ≡ true

pub did : (net : Net) (op : Op) (top : Entry) (below : List Entry) (word : Word2) → labels_known net (top ∷ below) ≡ true → word_over net op top.0.0 ≡ Some word → Did net op top below word
did net op top below word k e = go (allowed op top.1) refl
  where
    class : slice_get net.classes top.0.0 ≡ Some top.1
    class = class_known net.classes top (and_parts (label_known net.classes top) (labels_known net below) k).0

    e1 : (if allowed op top.1 then Some (word_of op (suc top.0.0)) else None) ≡ Some word
    e1 = rw class at e

    go : (b : Bool) → allowed op top.1 ≡ b → Did net op top below word
    go false a = let none : ◌≡◌ {A = Option Word2} None (Some word) = rw a at e1 in cc
    go true a =
        let some : ◌≡◌ {A = Option Word2} (Some (word_of op (suc top.0.0))) (Some word) = rw a at e1 in
        let same : word_of op (suc top.0.0) ≡ word = cc in
        record {
          next = effect op top below;
          next_is = rw a refl;
          stack_is = ap (λ w. symbols w ++ stack below) (sym same) ∙ effect_stack op top below;
          known = λ o. effect_known net op top below o k;
        }

-- an operation writes nothing just where it isn't defined
pub nothing_written : (net : Net) (op : Op) (top : Entry) (below : List Entry) → labels_known net (top ∷ below) ≡ true → after_op op (top ∷ below) ≡ None → word_over net op top.0.0 ≡ None
nothing_written net op top below k e = go (allowed op top.1) refl
  where
    class : slice_get net.classes top.0.0 ≡ Some top.1
    class = class_known net.classes top (and_parts (label_known net.classes top) (labels_known net below) k).0

    go : (b : Bool) → allowed op top.1 ≡ b → word_over net op top.0.0 ≡ None
    go false a = rw class (rw a refl)
    go true a = let some : ◌≡◌ {A = Option (List Entry)} (Some (effect op top below)) None = rw a at e in cc

pub nothing_done : (net : Net) (op : Op) (top : Entry) (below : List Entry) → labels_known net (top ∷ below) ≡ true → word_over net op top.0.0 ≡ None → after_op op (top ∷ below) ≡ None
nothing_done net op top below k e = go (allowed op top.1) refl
  where
    class : slice_get net.classes top.0.0 ≡ Some top.1
    class = class_known net.classes top (and_parts (label_known net.classes top) (labels_known net below) k).0

    e1 : (if allowed op top.1 then Some (word_of op (suc top.0.0)) else None) ≡ None
    e1 = rw class at e

    go : (b : Bool) → allowed op top.1 ≡ b → after_op op (top ∷ below) ≡ None
    go false a = rw a refl
    go true a = let some : ◌≡◌ {A = Option Word2} (Some (word_of op (suc top.0.0))) None = rw a at e1 in cc

-- operations, one after the other
abbrev pub After : List Op → List Entry → List Entry → Type 0
After [] h h2 = h ≡ h2
After (op ∷ ops) h h2 = (mid : List Entry) × (after_op op h ≡ Some mid) × After ops mid h2

outcome_after : (at : ℕ) (ops : List Op) (h h2 : List Entry) → outcome at ops h ≡ Ok h2 → After ops h h2
outcome_after at [] h h2 e = cc
outcome_after at (op ∷ ops) h h2 e = go (after_op op h) refl (λ mid. outcome_after (at + 1) ops mid h2)
  where
    go : (o : Option (List Entry)) → after_op op h ≡ o → ((mid : List Entry) → outcome (at + 1) ops mid ≡ Ok h2 → After ops mid h2) → After (op ∷ ops) h h2
    go None a ih = let none : ◌≡◌ {A = Result (List Entry) ℕ} (Err at) (Ok h2) = rw (a, outcome) at e in cc
    go (Some mid) a ih = (mid, a, ih mid (rw (a, outcome) at e))

after_outcome : (at : ℕ) (ops : List Op) (h h2 : List Entry) → After ops h h2 → outcome at ops h ≡ Ok h2
after_outcome at [] h h2 a = ap Ok a
after_outcome at (op ∷ ops) h h2 a = rw (a.1, outcome) (after_outcome (at + 1) ops a.0 h2 a.2)

pub after_from : (ops : List Op) (h h2 : List Entry) → after_ops ops h ≡ Some h2 → After ops h h2
after_from ops h h2 e = go (outcome 0 ops h) refl
  where
    go : (o : Result (List Entry) ℕ) → outcome 0 ops h ≡ o → After ops h h2
    go (Err i) a = let none : ◌≡◌ {A = Option (List Entry)} None (Some h2) = rw a at e in cc
    go (Ok x) a = let some : ◌≡◌ {A = Option (List Entry)} (Some x) (Some h2) = rw a at e in let same : x ≡ h2 = cc in outcome_after 0 ops h h2 (a ∙ ap Ok same)

pub after_to : (ops : List Op) (h h2 : List Entry) → After ops h h2 → after_ops ops h ≡ Some h2
after_to ops h h2 a = rw (after_outcome 0 ops h h2 a) refl

-- operations, one after the other, until one isn't defined
abbrev pub Stuck : List Op → List Entry → Type 0
Stuck [] h = ⊥
Stuck (op ∷ ops) h = (after_op op h ≡ None) ⊎ ((mid : List Entry) × (after_op op h ≡ Some mid) × Stuck ops mid)

outcome_stuck : (at : ℕ) (ops : List Op) (h : List Entry) (i : ℕ) → outcome at ops h ≡ Err i → Stuck ops h
outcome_stuck at [] h i e = let done : ◌≡◌ {A = Result (List Entry) ℕ} (Ok h) (Err i) = e in cc
outcome_stuck at (op ∷ ops) h i e = go (after_op op h) refl (λ mid. outcome_stuck (at + 1) ops mid i)
  where
    go : (o : Option (List Entry)) → after_op op h ≡ o → ((mid : List Entry) → outcome (at + 1) ops mid ≡ Err i → Stuck ops mid) → Stuck (op ∷ ops) h
    go None a ih = inl a
    go (Some mid) a ih = inr (mid, a, ih mid (rw (a, outcome) at e))

stuck_outcome : (at : ℕ) (ops : List Op) (h : List Entry) → Stuck ops h → (i : ℕ) × (outcome at ops h ≡ Err i)
stuck_outcome at [] h k = absurd k
stuck_outcome at (op ∷ ops) h (inl a) = (at, rw (a, outcome) refl)
stuck_outcome at (op ∷ ops) h (inr r) = let rest = stuck_outcome (at + 1) ops r.0 r.2 in (rest.0, rw (r.1, outcome) rest.1)

pub stuck_from : (ops : List Op) (h : List Entry) → after_ops ops h ≡ None → Stuck ops h
stuck_from ops h e = go (outcome 0 ops h) refl
  where
    go : (o : Result (List Entry) ℕ) → outcome 0 ops h ≡ o → Stuck ops h
    go (Err i) a = outcome_stuck 0 ops h i a
    go (Ok x) a = let some : ◌≡◌ {A = Option (List Entry)} (Some x) None = rw a at e in cc

pub stuck_to : (ops : List Op) (h : List Entry) → Stuck ops h → after_ops ops h ≡ None
stuck_to ops h k = let r = stuck_outcome 0 ops h k in rw r.1 refl
