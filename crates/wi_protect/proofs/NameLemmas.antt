-- Names of labels, taken or new, one by one.
use Rattle.std.proofs.Common.{◌≡◌, ℕ, ◌+◌, ◌<◌, ◌≤◌, Bool, true, false, List, ◌++◌, suc, take, drop, length, get_or, slice_get, subst, Option, Some, None, refl, sym, ap, ◌∙◌, arith}
use Rattle.std.specs.Prelude.{is_some}
use Rattle.std.specs.List.{list_any}
use Rattle.std.proofs.lemmas.List.{take_all}
use Rattle.wi_labels.specs.declared.label.Class.{Class}
use Rattle.wi_labels.specs.declared.label.Label.{Label}
use Rattle.wi_net.specs.Names.{place}
use Rattle.wi_net.specs.Net.{Net}
use Rattle.wi_net.specs.Finding.{find_label}
use Rattle.wi_net.specs.Builder.{Draft, with_label}
use Rattle.wi_protect.specs.Labels.{names_of, each_from, numbered, numbered_to}
use Rattle.wi_protect.specs.Refusals.{is_taken}
use Rattle.wi_protect.specs.private.Adding.{MayLabel, CanLabel, with_labels, name_if}
use Rattle.wi_protect.proofs.AddLemmas.{numbered_get, number_at, one_at, any_at, none_next, any_each, none_each, can_each, now_each, may_front, may_back, added_append, names_next, names_split}
use Rattle.wi_net.proofs.MemberLemmas.{get_read}
use Rattle.wi_protect.proofs.Classes.{numbered_count}

-- the name at a place
pub name_at : (letter : List ℕ) (a n i k : ℕ) (s text : List ℕ) → i < n → text ≡ numbered letter a k → k ≡ i + 1 → s ≡ text → slice_get (numbered_to letter a n) i ≡ Some s
name_at letter a n i k s text lt is next same = numbered_get letter a n i lt ∙ ap (λ x. Some x) (sym (same ∙ is ∙ ap (numbered letter a) next))

-- a label is found where its name is taken
pub taken_is : (net : Net) (name : List ℕ) (o : Option Label) (b : Bool) → o ≡ find_label net name → b ≡ is_some o → is_taken net name ≡ b
taken_is net name o b found is = go (place net.labels name) refl ∙ ap is_some (sym found) ∙ sym is
  where
    go : (p : Option ℕ) → place net.labels name ≡ p → is_some p ≡ is_some (find_label net name)
    go None e = rw e refl
    go (Some k) e = rw e refl

pub numbered_taken : (net : Net) (letter : List ℕ) (a n i : ℕ) (s text : List ℕ) (o : Option Label) → i < n → text ≡ numbered letter a (i + 1) → s ≡ text → o ≡ find_label net s → true ≡ is_some o → true ≡ list_any (is_taken net) (numbered_to letter a n)
numbered_taken net letter a n i s text o lt is same found here = sym (any_at (is_taken net) (numbered_to letter a n) i s (name_at letter a n i (i + 1) s text lt is refl same) (taken_is net s o true found here))

pub numbered_free : (net : Net) (letter : List ℕ) (a n i : ℕ) (s text : List ℕ) (o : Option Label) → i < n → text ≡ numbered letter a (i + 1) → s ≡ text → o ≡ find_label net s → false ≡ is_some o → list_any (is_taken net) (take i (numbered_to letter a n)) ≡ false
    → list_any (is_taken net) (take (i + 1) (numbered_to letter a n)) ≡ false
numbered_free net letter a n i s text o lt is same found here before = none_next (is_taken net) (numbered_to letter a n) i s (name_at letter a n i (i + 1) s text lt is refl same) before (taken_is net s o false found here)

pub all_free : (net : Net) (letter : List ℕ) (a n i : ℕ) → n ≤ i → list_any (is_taken net) (take i (numbered_to letter a n)) ≡ false → false ≡ list_any (is_taken net) (numbered_to letter a n)
all_free net letter a n i end before = sym (ap (list_any (is_taken net)) (sym (take_all i (numbered_to letter a n) (omega (arith, numbered_count letter a n)))) ∙ before)

-- adding them
pub numbered_all : (class : Class) (first d : Draft) (letter : List ℕ) (a n i : ℕ) → d ≡ with_labels class first (take i (numbered_to letter a n)) → n ≤ i → d ≡ with_labels class first (numbered_to letter a n)
numbered_all class first d letter a n i now end = now ∙ ap (with_labels class first) (take_all i (numbered_to letter a n) (omega (arith, numbered_count letter a n)))

-- the same for all paths, or all bypasses: each has so many labels
abbrev pub names_each : {X : Type 0} → List ℕ → (X → ℕ) → ℕ → List X → List (List ℕ)
names_each letter labels n xs = each_from (λ _. 1) (λ q x. numbered_to letter q (labels x)) n xs

number_is : {X : Type 0} (xs : List X) (i : ℕ) (x : X) → slice_get xs i ≡ Some x → i + 1 ≡ number_at (λ _. 1) 1 xs i
number_is xs i x at = omega (arith, one_at 1 xs i x at)

pub each_taken : {X : Type 0} (letter : List ℕ) (labels : X → ℕ) (net : Net) (xs : List X) (i n : ℕ) (x : X) (b : Bool) → i < length xs → x ≡ get_or xs i x → n ≡ labels x → b ≡ list_any (is_taken net) (numbered_to letter (i + 1) n) → b ≡ true
    → true ≡ list_any (is_taken net) (names_each letter labels 1 xs)
each_taken letter labels net xs i n x b lt is count found here =
    let at = get_read xs i x lt is in
    sym (any_each (λ _. 1) (λ q y. numbered_to letter q (labels y)) (is_taken net) 1 (i + 1) xs i x at (number_is xs i x at) (ap (λ k. list_any (is_taken net) (numbered_to letter (i + 1) k)) (sym count) ∙ sym found ∙ here))

pub each_free : {X : Type 0} (letter : List ℕ) (labels : X → ℕ) (net : Net) (xs : List X) (i n : ℕ) (x : X) (b : Bool) → i < length xs → x ≡ get_or xs i x → n ≡ labels x → b ≡ list_any (is_taken net) (numbered_to letter (i + 1) n) → b ≡ false
    → list_any (is_taken net) (names_each letter labels 1 (take i xs)) ≡ false → list_any (is_taken net) (names_each letter labels 1 (take (i + 1) xs)) ≡ false
each_free letter labels net xs i n x b lt is count found here before =
    let at = get_read xs i x lt is in
    none_each (λ _. 1) (λ q y. numbered_to letter q (labels y)) (is_taken net) 1 (i + 1) xs i x at (number_is xs i x at) before (ap (λ k. list_any (is_taken net) (numbered_to letter (i + 1) k)) (sym count) ∙ sym found ∙ here)

pub each_can : {X : Type 0} (letter : List ℕ) (labels : X → ℕ) (class : Class) (first d : Draft) (xs : List X) (i n : ℕ) (x : X) → CanLabel class first (names_each letter labels 1 xs) → d ≡ with_labels class first (names_each letter labels 1 (take i xs))
    → i < length xs → x ≡ get_or xs i x → n ≡ labels x → CanLabel class d (numbered_to letter (i + 1) n)
each_can letter labels class first d xs i n x can now lt is count =
    let at = get_read xs i x lt is in
    let P : ℕ → Type 0 = λ k. CanLabel class d (numbered_to letter (i + 1) k) in
    subst P (sym count) (can_each (λ _. 1) (λ q y. numbered_to letter q (labels y)) (MayLabel class) (λ e name. with_label e class name) first d 1 (i + 1) xs i x can now at (number_is xs i x at))

pub each_now : {X : Type 0} (letter : List ℕ) (labels : X → ℕ) (class : Class) (first d next : Draft) (xs : List X) (i n : ℕ) (x : X) → d ≡ with_labels class first (names_each letter labels 1 (take i xs)) → i < length xs → x ≡ get_or xs i x → n ≡ labels x
    → next ≡ with_labels class d (numbered_to letter (i + 1) n) → next ≡ with_labels class first (names_each letter labels 1 (take (i + 1) xs))
each_now letter labels class first d next xs i n x now lt is count more =
    let at = get_read xs i x lt is in
    now_each (λ _. 1) (λ q y. numbered_to letter q (labels y)) (λ e name. with_label e class name) first d next 1 (i + 1) xs i x now at (number_is xs i x at) (more ∙ ap (λ k. with_labels class d (numbered_to letter (i + 1) k)) count)

-- the labels of a class
pub class_can : (class c : Class) (first d : Draft) (classes : List Class) (names : List (List ℕ)) (i : ℕ) (s : List ℕ) → CanLabel class first (names_of class classes names) → d ≡ with_labels class first (names_of class (take i classes) (take i names))
    → slice_get classes i ≡ Some c → slice_get names i ≡ Some s → CanLabel class d (name_if class c s)
class_can class c first d classes names i s can now at named =
    let P : List (List ℕ) → Type 0 = λ ys. CanLabel class first ys in
    let front = names_of class (take i classes) (take i names) in
    let rest = names_of class (drop (suc i) classes) (drop (suc i) names) in
    let back = may_back (MayLabel class) (λ e name. with_label e class name) first front (name_if class c s ++ rest) (subst P (names_split class c classes names i s at named) can) in
    let Q : Draft → Type 0 = λ e. CanLabel class e (name_if class c s) in
    subst Q (sym now) (may_front (MayLabel class) (λ e name. with_label e class name) (with_labels class first front) (name_if class c s) rest back)

pub class_now : (class c : Class) (first d next : Draft) (classes : List Class) (names : List (List ℕ)) (i : ℕ) (s : List ℕ) → d ≡ with_labels class first (names_of class (take i classes) (take i names))
    → slice_get classes i ≡ Some c → slice_get names i ≡ Some s → next ≡ with_labels class d (name_if class c s) → next ≡ with_labels class first (names_of class (take (i + 1) classes) (take (i + 1) names))
class_now class c first d next classes names i s now at named more =
    more ∙ ap (λ e. with_labels class e (name_if class c s)) now
    ∙ sym (added_append (λ e name. with_label e class name) first (names_of class (take i classes) (take i names)) (name_if class c s))
    ∙ ap (with_labels class first) (sym (names_next class c classes names i s at named))

pub class_all : (class : Class) (first d : Draft) (classes : List Class) (names : List (List ℕ)) (i n : ℕ) → d ≡ with_labels class first (names_of class (take i classes) (take i names)) → length classes ≡ length names → n ≡ length names → n ≤ i → d ≡ with_labels class first (names_of class classes names)
class_all class first d classes names i n now same count end =
    now ∙ ap (λ cs. with_labels class first (names_of class cs (take i names))) (take_all i classes (omega arith)) ∙ ap (λ ns. with_labels class first (names_of class classes ns)) (take_all i names (omega arith))
