-- A bit that is set in a word.
use Rattle.std.specs.Prelude.{◌≡◌, ℕ, ◌*◌, ◌/◌, ◌%◌, ◌^◌, ◌<◌, ◌==◌, ◌&&◌, ◌||◌, Bool, true, false, not, if◌then◌else◌, Option, Some, refl}
use Rattle.std.specs.Cmp.{IsEquivalence}
use Rattle.std.specs.Int.{bit_at, w64}
use Rattle.std.specs.Int.Bits.{bit_and, bit_or}
use Rattle.std.specs.Option.{unwrap_or}
use Rattle.std.specs.HashMap.{HashMap, get}
use Rattle.std.proofs.Common.{sym, ap, ◌∙◌, subst}
use Rattle.std.proofs.lemmas.Bool.{eq-eqb, eqb-true, eqb-false, ne_eqb, false≢true}
use Rattle.std.proofs.lemmas.Nat.Bits.{shr_and_one, bit_at_set_same, bit_at_set_other}
use Rattle.wi_reduce.specs.private.Worklists.{eq_by_parts}
use Rattle.wi_reduce.specs.private.Bits.{word_at, has_bit}

-- what the test of a bit tells
pub told_set : (word k : ℕ) → bit_and (word / 2 ^ k) 1 ≡ 1 → (bit_at word k == 1) ≡ true
told_set word k h = eq-eqb (bit_at word k) 1 (sym (shr_and_one word k) ∙ h)

pub told_unset : (word k : ℕ) → (bit_and (word / 2 ^ k) 1 ≡ 1 → ⊥) → (bit_at word k == 1) ≡ false
told_unset word k h = ne_eqb (bit_at word k) 1 (λ is. h (shr_and_one word k ∙ is))

neither : (a b : Bool) → (b ≡ true → ⊥) → (a && b) ≡ false
neither a true h = absurd (h refl)
neither true false h = refl
neither false false h = refl

module _ {A B : Type 0} (e : A → A → Bool) (f : B → B → Bool) (part : B → B) (rest : B → ℕ) (e_laws : IsEquivalence e) (f_laws : IsEquivalence f)
    (e_same : (x y : A) → e x y ≡ true → x ≡ y) (f_same : (x y : B) → f x y ≡ true → x ≡ y) (whole : (x y : B) → part x ≡ part y → rest x ≡ rest y → x ≡ y) where
  module _ {S : Type 0} (old new : HashMap (A × B) ℕ S) (pair : A × B) (word : ℕ) (is : word ≡ word_at e f old (pair.0, part pair.1)) (low : rest pair.1 < 64)
      (put : (q : A × B) → get (eq_by_parts e f) new q ≡ (if eq_by_parts e f (pair.0, part pair.1) q then Some (bit_or word (1 * 2 ^ rest pair.1 % 2 ^ 64)) else get (eq_by_parts e f) old q)) where
    abbrev has_old : A × B → Bool
    has_old = has_bit e f part rest old

    abbrev has_new : A × B → Bool
    has_new = has_bit e f part rest new

    abbrev more : Option ℕ
    more = Some (bit_or word (1 * 2 ^ rest pair.1 % 2 ^ 64))

    abbrev pub IsAdded : A × B → Type 0
    IsAdded q = has_new q ≡ (eq_by_parts e f pair q || has_old q)

    -- at another place all is as it was
    other : (q : A × B) → eq_by_parts e f (pair.0, part pair.1) (q.0, part q.1) ≡ false → eq_by_parts e f pair q ≡ false → IsAdded q
    other q apart differ =
        ap (λ w. bit_at (unwrap_or w 0) (rest q.1) == 1) (put (q.0, part q.1) ∙ ap (λ b. if b then more else get (eq_by_parts e f) old (q.0, part q.1)) apart)
        ∙ sym (ap (λ b. b || has_old q) differ)

    -- at the same place one bit more is set
    here : (q : A × B) → e pair.0 q.0 ≡ true → f (part pair.1) (part q.1) ≡ true → has_new q ≡ (bit_at (bit_or word (1 * 2 ^ rest pair.1 % 2 ^ 64)) (rest q.1) == 1)
    here q first second =
        ap (λ w. bit_at (unwrap_or w 0) (rest q.1) == 1)
        (put (q.0, part q.1) ∙ ap (λ b. if b && f (part pair.1) (part q.1) then more else get (eq_by_parts e f) old (q.0, part q.1)) first ∙ ap (λ b. if b then more else get (eq_by_parts e f) old (q.0, part q.1)) second)

    -- pairs whose second numbers differ do
    unequal : (q : A × B) → (pair.1 ≡ q.1 → ⊥) → eq_by_parts e f pair q ≡ false
    unequal q differ = neither (e pair.0 q.0) (f pair.1 q.1) (λ h. differ (f_same pair.1 q.1 h))

    by_rest : (q : A × B) → e pair.0 q.0 ≡ true → f (part pair.1) (part q.1) ≡ true → (b : Bool) → (rest pair.1 == rest q.1) ≡ b → IsAdded q
    by_rest q first second true same =
        let left : rest pair.1 ≡ rest q.1 = eqb-true (rest pair.1) (rest q.1) same in
        let is : pair.1 ≡ q.1 = whole pair.1 q.1 (f_same (part pair.1) (part q.1) second) left in
        here q first second
        ∙ ap (λ k. bit_at (bit_or word (1 * 2 ^ rest pair.1 % 2 ^ 64)) k == 1) (sym left)
        ∙ eq-eqb _ 1 (bit_at_set_same w64 word (rest pair.1) low)
        ∙ sym (ap (λ b. (b && f pair.1 q.1) || has_old q) first ∙ ap (λ y. f pair.1 y || has_old q) (sym is) ∙ ap (λ b. b || has_old q) (f_laws.refl pair.1))
    by_rest q first second false differ =
        let apart : rest pair.1 ≡ rest q.1 → ⊥ = eqb-false (rest pair.1) (rest q.1) differ in
        here q first second
        ∙ ap (λ n. n == 1) (bit_at_set_other w64 word (rest pair.1) low (rest q.1) (λ k. apart (sym k)))
        ∙ ap (λ w. bit_at w (rest q.1) == 1) (is ∙ ap (λ x. word_at e f old (x, part pair.1)) (e_same pair.0 q.0 first) ∙ ap (λ p. word_at e f old (q.0, p)) (f_same (part pair.1) (part q.1) second))
        ∙ sym (ap (λ b. b || has_old q) (unequal q (λ k. apart (ap rest k))))

    by_part : (q : A × B) → e pair.0 q.0 ≡ true → (b : Bool) → f (part pair.1) (part q.1) ≡ b → IsAdded q
    by_part q first true second = by_rest q first second (rest pair.1 == rest q.1) refl
    by_part q first false second =
        other q (ap (λ b. b && f (part pair.1) (part q.1)) first ∙ second)
        (unequal q (λ is. false≢true (sym second ∙ ap (λ y. f (part pair.1) (part y)) (sym is) ∙ f_laws.refl (part pair.1))))

    by_first : (q : A × B) → (b : Bool) → e pair.0 q.0 ≡ b → IsAdded q
    by_first q true first = by_part q first (f (part pair.1) (part q.1)) refl
    by_first q false first = other q (ap (λ b. b && f (part pair.1) (part q.1)) first) (ap (λ b. b && f pair.1 q.1) first)

    -- a pair is there where it is the one that was added, or was there before
    pub added : (q : A × B) → IsAdded q
    added q = by_first q (e pair.0 q.0) refl
