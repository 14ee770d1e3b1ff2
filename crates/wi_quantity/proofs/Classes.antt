-- Kinds of bytes.
use Rattle.std.proofs.Common.{◌≡◌, ℕ, ◌≤◌, Bool, true, false, ◌&&◌, ◌||◌, nat_eq, nat_le, refl, arith, ◌⊎◌, inl, inr, None}
use Rattle.std.proofs.lemmas.Bool.{eqb-true, leb-true, and_parts, or_cases}
use Rattle.std.proofs.lemmas.Bool.Decides.{nat_tests}
use Rattle.wi_text.specs.Characters.{is_space, is_digit, is_letter}
use Rattle.wi_quantity.specs.declared.written.Class.{Class}
use Rattle.wi_quantity.specs.declared.written.Class.TheVariants.{Space, Zero, Nonzero, Letter, Star, Plus, Comma, Other}
use Rattle.wi_quantity.specs.declared.written.Stage.{Stage}
use Rattle.wi_quantity.specs.declared.written.Stage.TheVariants.{Start, AfterZero, InNumber, AfterNumber, AfterStar, InWord, AfterWord}
use Rattle.wi_quantity.specs.private.Syntax.{class_of, next_stage}

pub space_class : (b : ℕ) → is_space b ≡ true → class_of b ≡ Space
space_class b e = rw e refl

space_low : (b : ℕ) → is_space b ≡ true → b ≤ 32
space_low b e =
    elim (or_cases (nat_eq b 32) (nat_eq b 9 || (nat_eq b 13 || nat_eq b 10)) e) [
      | inl h ↦ (let i = eqb-true b 32 h in omega (arith, i))
      | inr h ↦ elim (or_cases (nat_eq b 9) (nat_eq b 13 || nat_eq b 10) h) [
        | inl g ↦ (let i = eqb-true b 9 g in omega (arith, i))
        | inr g ↦ elim (or_cases (nat_eq b 13) (nat_eq b 10) g) [ inl k ↦ (let i = eqb-true b 13 k in omega (arith, i)) | inr k ↦ (let i = eqb-true b 10 k in omega (arith, i)) ]
      ]
    ]

letter_high : (b : ℕ) → is_letter b ≡ true → (65 ≤ b) × (b ≤ 122)
letter_high b e =
    elim (or_cases (nat_le 65 b && nat_le b 90) (nat_le 97 b && nat_le b 122) e) [
      | inl h ↦ (let p = and_parts (nat_le 65 b) (nat_le b 90) h in let low = leb-true 65 b p.0 in let high = leb-true b 90 p.1 in (omega (arith, low), omega (arith, high)))
      | inr h ↦ (let p = and_parts (nat_le 97 b) (nat_le b 122) h in let low = leb-true 97 b p.0 in let high = leb-true b 122 p.1 in (omega (arith, low), omega (arith, high)))
    ]

digit_range : (b : ℕ) → is_digit b ≡ true → (48 ≤ b) × (b ≤ 57)
digit_range b e = let p = and_parts (nat_le 48 b) (nat_le b 57) e in (leb-true 48 b p.0, leb-true b 57 p.1)

-- bytes over 32 aren't white space
no_space : (b : ℕ) → 33 ≤ b → is_space b ≡ false
no_space b low =
    let a : nat_eq b 32 ≡ false = grind (arith, nat_tests) in
    let d : nat_eq b 9 ≡ false = grind (arith, nat_tests) in
    let e : nat_eq b 13 ≡ false = grind (arith, nat_tests) in
    let f : nat_eq b 10 ≡ false = grind (arith, nat_tests) in
    rw (a, d, e, f) refl

pub letter_class : (b : ℕ) → is_letter b ≡ true → class_of b ≡ Letter
letter_class b e =
    let range = letter_high b e in
    let low = range.0 in
    let high = range.1 in
    let s : is_space b ≡ false = no_space b (omega (arith, low)) in
    let z : nat_eq b 48 ≡ false = grind (arith, nat_tests, low) in
    let n : nat_le b 57 ≡ false = grind (arith, nat_tests, low) in
    let m : nat_le 49 b ≡ true = grind (arith, nat_tests, low) in
    rw (s, z, n, m, e) refl

pub zero_class : class_of 48 ≡ Zero
zero_class = refl

pub nonzero_class : (b : ℕ) → 49 ≤ b → b ≤ 57 → class_of b ≡ Nonzero
nonzero_class b low high =
    let s : is_space b ≡ false = no_space b (omega (arith, low)) in
    let z : nat_eq b 48 ≡ false = grind (arith, nat_tests) in
    let n : nat_le b 57 ≡ true = grind (arith, nat_tests) in
    let m : nat_le 49 b ≡ true = grind (arith, nat_tests) in
    rw (s, z, n, m) refl

pub digit_class : (b : ℕ) → is_digit b ≡ true → (class_of b ≡ Zero) ⊎ (class_of b ≡ Nonzero)
digit_class b e =
    let range = digit_range b e in
    elim (cases (nat_eq b 48)) [
      | inl h ↦ inl (rw (eqb-true b 48 h) refl)
      | inr h ↦ inr (nonzero_class b (let low = range.0 in grind (arith, nat_tests, low)) range.1)
    ]
  where
    cases : (t : Bool) → (t ≡ true) ⊎ (t ≡ false)
    cases true = inl refl
    cases false = inr refl

-- what a byte of a kind is
pub record IsOf (b : ℕ) : Type 0 where
  pub space : class_of b ≡ Space → is_space b ≡ true
  pub zero : class_of b ≡ Zero → b ≡ 48
  pub nonzero : class_of b ≡ Nonzero → (49 ≤ b) × (b ≤ 57)
  pub letter : class_of b ≡ Letter → is_letter b ≡ true
  pub star : class_of b ≡ Star → b ≡ 42
  pub plus : class_of b ≡ Plus → b ≡ 43
  pub comma : class_of b ≡ Comma → b ≡ 44

pub is_of : (b : ℕ) → IsOf b
is_of b = s0 (is_space b) refl
  where
    s6 : is_space b ≡ false → nat_eq b 48 ≡ false → (nat_le 49 b && nat_le b 57) ≡ false → is_letter b ≡ false → nat_eq b 42 ≡ false → nat_eq b 43 ≡ false → (t : Bool) → nat_eq b 44 ≡ t → IsOf b
    s6 e0 e1 e2 e3 e4 e5 true e6 =
        let c : class_of b ≡ Comma = rw (e0, e1, e2, e3, e4, e5, e6) refl in
        record { space = (λ h. cc); zero = (λ h. cc); nonzero = (λ h. cc); letter = (λ h. cc); star = (λ h. cc); plus = (λ h. cc); comma = (λ h. eqb-true b 44 e6) }
    s6 e0 e1 e2 e3 e4 e5 false e6 =
        let c : class_of b ≡ Other = rw (e0, e1, e2, e3, e4, e5, e6) refl in
        record { space = (λ h. cc); zero = (λ h. cc); nonzero = (λ h. cc); letter = (λ h. cc); star = (λ h. cc); plus = (λ h. cc); comma = (λ h. cc) }

    s5 : is_space b ≡ false → nat_eq b 48 ≡ false → (nat_le 49 b && nat_le b 57) ≡ false → is_letter b ≡ false → nat_eq b 42 ≡ false → (t : Bool) → nat_eq b 43 ≡ t → IsOf b
    s5 e0 e1 e2 e3 e4 true e5 =
        let c : class_of b ≡ Plus = rw (e0, e1, e2, e3, e4, e5) refl in
        record { space = (λ h. cc); zero = (λ h. cc); nonzero = (λ h. cc); letter = (λ h. cc); star = (λ h. cc); plus = (λ h. eqb-true b 43 e5); comma = (λ h. cc) }
    s5 e0 e1 e2 e3 e4 false e5 = s6 e0 e1 e2 e3 e4 e5 (nat_eq b 44) refl

    s4 : is_space b ≡ false → nat_eq b 48 ≡ false → (nat_le 49 b && nat_le b 57) ≡ false → is_letter b ≡ false → (t : Bool) → nat_eq b 42 ≡ t → IsOf b
    s4 e0 e1 e2 e3 true e4 =
        let c : class_of b ≡ Star = rw (e0, e1, e2, e3, e4) refl in
        record { space = (λ h. cc); zero = (λ h. cc); nonzero = (λ h. cc); letter = (λ h. cc); star = (λ h. eqb-true b 42 e4); plus = (λ h. cc); comma = (λ h. cc) }
    s4 e0 e1 e2 e3 false e4 = s5 e0 e1 e2 e3 e4 (nat_eq b 43) refl

    s3 : is_space b ≡ false → nat_eq b 48 ≡ false → (nat_le 49 b && nat_le b 57) ≡ false → (t : Bool) → is_letter b ≡ t → IsOf b
    s3 e0 e1 e2 true e3 =
        let c : class_of b ≡ Letter = rw (e0, e1, e2, e3) refl in
        record { space = (λ h. cc); zero = (λ h. cc); nonzero = (λ h. cc); letter = (λ h. e3); star = (λ h. cc); plus = (λ h. cc); comma = (λ h. cc) }
    s3 e0 e1 e2 false e3 = s4 e0 e1 e2 e3 (nat_eq b 42) refl

    s2 : is_space b ≡ false → nat_eq b 48 ≡ false → (t : Bool) → (nat_le 49 b && nat_le b 57) ≡ t → IsOf b
    s2 e0 e1 true e2 =
        let c : class_of b ≡ Nonzero = rw (e0, e1, e2) refl in
        let parts = and_parts (nat_le 49 b) (nat_le b 57) e2 in
        record { space = (λ h. cc); zero = (λ h. cc); nonzero = (λ h. (leb-true 49 b parts.0, leb-true b 57 parts.1)); letter = (λ h. cc); star = (λ h. cc); plus = (λ h. cc); comma = (λ h. cc) }
    s2 e0 e1 false e2 = s3 e0 e1 e2 (is_letter b) refl

    s1 : is_space b ≡ false → (t : Bool) → nat_eq b 48 ≡ t → IsOf b
    s1 e0 true e1 =
        let c : class_of b ≡ Zero = rw (e0, e1) refl in
        record { space = (λ h. cc); zero = (λ h. eqb-true b 48 e1); nonzero = (λ h. cc); letter = (λ h. cc); star = (λ h. cc); plus = (λ h. cc); comma = (λ h. cc) }
    s1 e0 false e1 = s2 e0 e1 (nat_le 49 b && nat_le b 57) refl

    s0 : (t : Bool) → is_space b ≡ t → IsOf b
    s0 true e0 =
        let c : class_of b ≡ Space = rw e0 refl in
        record { space = (λ h. e0); zero = (λ h. cc); nonzero = (λ h. cc); letter = (λ h. cc); star = (λ h. cc); plus = (λ h. cc); comma = (λ h. cc) }
    s0 false e0 = s1 e0 (nat_eq b 48) refl

-- a byte that isn't ASCII is of no kind
pub wide_class : (b : ℕ) → 128 ≤ b → class_of b ≡ Other
wide_class b wide = other (class_of b) refl
  where
    other : (c : Class) → class_of b ≡ c → class_of b ≡ Other
    other Space e = let l = space_low b ((is_of b).space e) in absurd (omega (arith, l))
    other Zero e = let l = (is_of b).zero e in absurd (omega (arith, l))
    other Nonzero e = let l = ((is_of b).nonzero e).1 in absurd (omega (arith, l))
    other Letter e = let l = (letter_high b ((is_of b).letter e)).1 in absurd (omega (arith, l))
    other Star e = let l = (is_of b).star e in absurd (omega (arith, l))
    other Plus e = let l = (is_of b).plus e in absurd (omega (arith, l))
    other Comma e = let l = (is_of b).comma e in absurd (omega (arith, l))
    other Other e = e

pub no_next : (p : Stage) → next_stage p Other ≡ None
no_next Start = refl
no_next AfterZero = refl
no_next InNumber = refl
no_next AfterNumber = refl
no_next AfterStar = refl
no_next InWord = refl
no_next AfterWord = refl

-- what isn't a digit or a letter
pub not_digit : (b : ℕ) → (class_of b ≡ Space) ⊎ (class_of b ≡ Star) → is_digit b ≡ false
not_digit b (inl e) = let l = space_low b ((is_of b).space e) in let t : nat_le 48 b ≡ false = grind (arith, nat_tests, l) in rw t refl
not_digit b (inr e) = rw ((is_of b).star e) refl

pub not_letter : (b : ℕ) → is_space b ≡ true → is_letter b ≡ false
not_letter b e =
    let l = space_low b e in
    let low : nat_le 65 b ≡ false = grind (arith, nat_tests, l) in
    let high : nat_le 97 b ≡ false = grind (arith, nat_tests, l) in
    rw (low, high) refl

pub nonzero_digit : (b : ℕ) → 48 ≤ b → b ≤ 57 → is_digit b ≡ true
nonzero_digit b low high =
    let l : nat_le 48 b ≡ true = grind (arith, nat_tests) in
    let h : nat_le b 57 ≡ true = grind (arith, nat_tests) in
    rw (l, h) refl
