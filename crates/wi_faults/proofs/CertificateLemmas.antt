-- Numbers of a certificate's fault, piece by piece.
use Rattle.std.proofs.Common.{◌≡◌, ℕ, List, [], ◌∷◌, ◌++◌, append_assoc, refl, sym, ap, ◌∙◌}
use Rattle.std.specs.Prelude.{codes, Result, Ok, Err, OnOk}
use Rattle.std.specs.Fmt.{decimal}
use Rattle.wi_faults.specs.Numbers.{numbers_shown}

numbers_append : (xs ys : List ℕ) → numbers_shown (xs ++ ys) ≡ numbers_shown xs ++ numbers_shown ys
numbers_append [] ys = refl
numbers_append (x ∷ xs) ys = ap (λ rest. codes " " ++ decimal x ++ rest) (numbers_append xs ys) ∙ sym (append_assoc (codes " " ++ decimal x) (numbers_shown xs) (numbers_shown ys))

-- what follows from what was put, where it was
pub if_put : {T E A B : Type 0} (r : Result T E) → (A → B) → OnOk r A → OnOk r B
if_put (Ok x) f h = f h
if_put (Err e) f h = tt

-- two lists of numbers, put one after the other, are put as one
pub numbers_put : (xs ys : List ℕ) (old mid new : List ℕ) → mid ≡ old ++ numbers_shown xs → new ≡ mid ++ numbers_shown ys → new ≡ old ++ numbers_shown (xs ++ ys)
numbers_put xs ys old mid new first second = second ∙ (ap (λ text. text ++ numbers_shown ys) first ∙ (append_assoc old (numbers_shown xs) (numbers_shown ys) ∙ ap (λ text. old ++ text) (sym (numbers_append xs ys))))

-- two numbers in words
pub counts_put : (first second : ℕ) (old mid new : List ℕ) → mid ≡ old ++ (codes "terms shown " ++ decimal first ++ codes ", asked ") → new ≡ mid ++ decimal second → new ≡ old ++ (codes "terms shown " ++ decimal first ++ codes ", asked " ++ decimal second)
counts_put first second old mid new before after = after ∙ (ap (λ text. text ++ decimal second) before ∙ append_assoc old (codes "terms shown " ++ decimal first ++ codes ", asked ") (decimal second))
