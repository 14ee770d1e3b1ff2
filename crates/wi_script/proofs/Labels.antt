-- Labels are read as they are written, and nothing else is.
use Rattle.std.proofs.Common.{◌≡◌, ◌≢◌, ℕ, zero, suc, ◌<◌, ◌≤◌, true, false, List, [], ◌∷◌, ◌++◌, Option, Some, None, length, nat_eq, codes, refl, sym, ap, subst, ◌∙◌, arith, length-append}
use Rattle.std.specs.Prelude.{option_map}
use Rattle.std.specs.List.{list_all}
use Rattle.std.proofs.lemmas.Bool.{and_parts, and_from, ne_eqb, true≢false}
use Rattle.std.proofs.lemmas.List.{append_assoc, append-nil, map-append}
use Rattle.std.proofs.lemmas.Option.{none-some, same_Some, option_and_then_some}
use Rattle.wi_text.specs.Characters.{is_plain, begins_with}
use Rattle.wi_script.specs.Lines.{Name, name_bytes, labels_bytes, is_name}
use Rattle.wi_script.specs.declared.line.WrittenName.{WrittenName}
use Rattle.wi_script.specs.private.Reading.{name_of, names_of, past, label_in, labels_in}
use Rattle.wi_script.proofs.Fronts.{past_some}
use Rattle.wi_script.proofs.Names.{IsRead, name_some, name_on}

abbrev pub label_bytes : Name → List ℕ
label_bytes n = 32 ∷ name_bytes n

pub label_some : (text : List ℕ) (r : Name × List ℕ) → label_in text ≡ Some r → IsRead label_bytes is_name text r
unfolding label_in
label_some text r e =
    option_and_then_some _ (past (codes " ") text) r e (λ rest is e1.
    let name : IsRead name_bytes is_name rest r = name_some rest r e1 in
    record { written = past_some (codes " ") text rest is ∙ ap (λ x. 32 ∷ x) name.written; is = name.is })

pub label_shorter : (text : List ℕ) (r : Name × List ℕ) → label_in text ≡ Some r → length r.1 < length text
label_shorter text r e = let read = label_some text r e in omega (arith, ap length read.written, length-append (name_bytes r.0) r.1)

label_on : (n : Name) (rest : List ℕ) → is_name n ≡ true → begins_with is_plain rest ≡ false → label_in (32 ∷ (name_bytes n ++ rest)) ≡ Some (n, rest)
unfolding label_in past
label_on n rest form ends = name_on n rest form ends

-- ---- all labels

pub record AreRead (text : List ℕ) (labels : List Name) : Type 0 where
  pub written : text ≡ labels_bytes labels
  pub are : list_all is_name labels ≡ true

pub option_map_some : {A B : Type 0} (f : A → B) (o : Option A) (y : B) → option_map f o ≡ Some y → (x : A) × (o ≡ Some x) × (f x ≡ y)
option_map_some f None y e = absurd (none-some y e)
option_map_some f (Some x) y e = (x, refl, same_Some (f x) y e)

pub labels_some : (n : ℕ) (text : List ℕ) (labels : List Name) → labels_in n text ≡ Some labels → AreRead text labels
unfolding labels_in
labels_some n [] labels e = subst (AreRead []) (same_Some [] labels e) (record { written = refl; are = refl })
labels_some zero (b ∷ text) labels e = absurd (none-some labels e)
labels_some (suc n) (b ∷ text) labels e =
    option_and_then_some _ (label_in (b ∷ text)) labels e (λ label is e1.
    let more = option_map_some (λ ls. label.0 ∷ ls) (labels_in n label.1) labels e1 in
    let here : IsRead label_bytes is_name (b ∷ text) label = label_some (b ∷ text) label is in
    let below : AreRead label.1 more.0 = labels_some n label.1 more.0 more.1 in
    subst (AreRead (b ∷ text)) more.2
    (record { written = here.written ∙ ap (λ x. 32 ∷ (name_bytes label.0 ++ x)) below.written; are = and_from _ _ here.is below.are }))

pub label_ends : (labels : List Name) → begins_with is_plain (labels_bytes labels) ≡ false
label_ends [] = refl
label_ends (n ∷ labels) = refl

pub labels_on : (n : ℕ) (labels : List Name) → list_all is_name labels ≡ true → length (labels_bytes labels) ≤ n → labels_in n (labels_bytes labels) ≡ Some labels
unfolding labels_in
labels_on n [] are within = refl
labels_on zero (m ∷ labels) are within = absurd (omega arith)
labels_on (suc n) (m ∷ labels) are within =
    let parts : (is_name m ≡ true) × (list_all is_name labels ≡ true) = and_parts (is_name m) (list_all is_name labels) are in
    let below : length (labels_bytes labels) ≤ n = omega (arith, length-append (name_bytes m) (labels_bytes labels)) in
    rw (label_on m (labels_bytes labels) parts.0 (label_ends labels)) (rw (labels_on n labels parts.1 below) refl)

-- ---- the loop

-- the labels so far and those of what is left are those of the whole
pub record Turns (before : List Name) (left : List ℕ) (n : ℕ) (text : List ℕ) : Type 0 where
  pub most : ℕ
  pub within : length left ≤ most
  pub whole : option_map (λ labels. before ++ labels) (labels_in most left) ≡ labels_in n text

behind : {A : Type 0} (before : List A) (x : A) (o : Option (List A)) → option_map (λ xs. before ++ xs) (option_map (λ xs. x ∷ xs) o) ≡ option_map (λ xs. (before ++ x ∷ []) ++ xs) o
behind before x None = refl
behind before x (Some xs) = ap Some (sym (append_assoc before (x ∷ []) xs))

nothing_before : {A : Type 0} (o : Option (List A)) → option_map (λ xs. [] ++ xs) o ≡ o
nothing_before None = refl
nothing_before (Some xs) = refl

pub turns_first : (text : List ℕ) → Turns [] text (length text) text
turns_first text = record { most = length text; within = omega arith; whole = nothing_before (labels_in (length text) text) }

turn : (m : ℕ) (left : List ℕ) (r : Name × List ℕ) → label_in left ≡ Some r → length left ≤ m → (k : ℕ) × (length r.1 ≤ k) × (labels_in m left ≡ option_map (λ labels. r.0 ∷ labels) (labels_in k r.1))
unfolding labels_in
turn m [] r e within = absurd (omega (arith, label_shorter [] r e))
turn zero (b ∷ left) r e within = absurd (omega arith)
turn (suc m) (b ∷ left) r e within = (m, omega (arith, label_shorter (b ∷ left) r e), rw e refl)

pub turns_on : (before : List Name) (left : List ℕ) (n : ℕ) (text : List ℕ) (r : Name × List ℕ) → Turns before left n text → label_in left ≡ Some r → Turns (before ++ r.0 ∷ []) r.1 n text
turns_on before left n text r t e =
    let next = turn t.most left r e t.within in
    record {
      most = next.0;
      within = next.1;
      whole = sym (behind before r.0 (labels_in next.0 r.1)) ∙ ap (option_map (λ labels. before ++ labels)) (sym next.2) ∙ t.whole;
    }

pub turns_end : (before : List Name) (n : ℕ) (text : List ℕ) → Turns before [] n text → labels_in n text ≡ Some before
unfolding labels_in
turns_end before n text t = sym t.whole ∙ ap Some (append-nil before)

stops : (m : ℕ) (left : List ℕ) → label_in left ≡ None → left ≢ [] → labels_in m left ≡ None
unfolding labels_in
stops m [] e some = absurd (some refl)
stops zero (b ∷ left) e some = refl
stops (suc m) (b ∷ left) e some = rw e refl

pub turns_stop : (before : List Name) (left : List ℕ) (n : ℕ) (text : List ℕ) → Turns before left n text → label_in left ≡ None → left ≢ [] → labels_in n text ≡ None
turns_stop before left n text t e some = sym t.whole ∙ ap (option_map (λ labels. before ++ labels)) (stops t.most left e some)

-- ---- what the program has

pub held_on : (before : List WrittenName) (name : WrittenName) (pushed : List WrittenName) (left : List ℕ) (n : ℕ) (text : List ℕ) (rest : List ℕ) → Turns (names_of before) left n text → pushed ≡ before ++ name ∷ []
    → ◌≡◌ {A = Option (Name × List ℕ)} (Some (name_of name, rest)) (label_in left) → Turns (names_of pushed) rest n text
held_on before name pushed left n text rest t is e =
    subst (λ x. Turns x rest n text) (sym (ap names_of is ∙ map-append name_of before (name ∷ []))) (turns_on (names_of before) left n text (name_of name, rest) t (sym e))

empty : {A : Type 0} (s : List A) → true ≡ nat_eq (length s) 0 → s ≡ []
empty [] e = refl
empty (x ∷ s) e = let some : nat_eq (length (x ∷ s)) 0 ≡ false = ne_eqb (length (x ∷ s)) 0 (λ zero. omega arith) in absurd (true≢false (e ∙ some))

not_empty : {A : Type 0} (s : List A) → false ≡ nat_eq (length s) 0 → s ≢ []
not_empty s e is = absurd (true≢false (sym (e ∙ ap (λ x. nat_eq (length x) 0) is)))

pub held_end : (labels : List WrittenName) (left : List ℕ) (n : ℕ) (text : List ℕ) → Turns (names_of labels) left n text → true ≡ nat_eq (length left) 0 → Some (names_of labels) ≡ labels_in n text
held_end labels left n text t e = sym (turns_end (names_of labels) n text (subst (λ x. Turns (names_of labels) x n text) (empty left e) t))

pub held_stop : (labels : List WrittenName) (left : List ℕ) (n : ℕ) (text : List ℕ) → Turns (names_of labels) left n text → ◌≡◌ {A = Option (Name × List ℕ)} None (label_in left) → false ≡ nat_eq (length left) 0 → ◌≡◌ {A = Option (List Name)} None (labels_in n text)
held_stop labels left n text t e some = sym (turns_stop (names_of labels) left n text t (sym e) (not_empty left some))
