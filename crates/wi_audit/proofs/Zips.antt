-- Two lists whose elements belong together, place by place.
use Rattle.std.proofs.Common.{◌≡◌, ◌∙◌, ℕ, ◌+◌, ◌<◌, zero, suc, List, [], ◌∷◌, ◌++◌, get_or, length, set, take, ap, sym, subst, arith}
use Rattle.std.specs.List.{AllZip}
use Rattle.std.proofs.lemmas.List.{take_more}

pushed : {A B : Type 0} (R : A → B → Type 0) (xs : List A) (ys : List B) (x : A) (y : B) → AllZip R xs ys → R x y → AllZip R (xs ++ x ∷ []) (ys ++ y ∷ [])
pushed R [] [] x y h r = (r, tt)
pushed R [] (b ∷ ys) x y h r = absurd h
pushed R (a ∷ xs) [] x y h r = absurd h
pushed R (a ∷ xs) (b ∷ ys) x y h r = (h.0, pushed R xs ys x y h.1 r)

-- the next pair
pub zip_more : {A B : Type 0} (R : A → B → Type 0) (xs : List A) (ys : List B) (i : ℕ) (x : A) (y : B) → i < length xs → x ≡ get_or xs i x → AllZip R (take i xs) ys → R x y → AllZip R (take (i + 1) xs) (ys ++ y ∷ [])
zip_more R xs ys i x y less is h r = subst (λ l. AllZip R l (ys ++ y ∷ [])) (ap (λ z. take i xs ++ z ∷ []) is ∙ sym (take_more xs i x less)) (pushed R (take i xs) ys x y h r)

-- the pair at a place
pub zip_at : {A B : Type 0} (R : A → B → Type 0) (xs : List A) (ys : List B) (i : ℕ) (x : A) (y : B) → AllZip R xs ys → i < length xs → x ≡ get_or xs i x → y ≡ get_or ys i y → R x y
zip_at R [] ys i x y h less ix iy = absurd (omega (arith, less))
zip_at R (a ∷ xs) [] i x y h less ix iy = absurd h
zip_at R (a ∷ xs) (b ∷ ys) zero x y h less ix iy = subst (λ u. R u y) (sym ix) (subst (λ v. R a v) (sym iy) h.0)
zip_at R (a ∷ xs) (b ∷ ys) (suc i) x y h less ix iy = zip_at R xs ys i x y h.1 (omega (arith, less)) ix iy

-- with another element at a place
pub zip_set : {A B : Type 0} (R : A → B → Type 0) (xs : List A) (ys : List B) (i : ℕ) (x : A) (y : B) → AllZip R xs ys → i < length xs → x ≡ get_or xs i x → R x y → AllZip R xs (set ys i y)
zip_set R [] ys i x y h less ix r = absurd (omega (arith, less))
zip_set R (a ∷ xs) [] i x y h less ix r = absurd h
zip_set R (a ∷ xs) (b ∷ ys) zero x y h less ix r = (subst (λ u. R u y) ix r, h.1)
zip_set R (a ∷ xs) (b ∷ ys) (suc i) x y h less ix r = (h.0, zip_set R xs ys i x y h.1 (omega (arith, less)) ix r)

pub zip_long : {A B : Type 0} (R : A → B → Type 0) (xs : List A) (ys : List B) → AllZip R xs ys → length ys ≡ length xs
zip_long R [] [] h = cc
zip_long R [] (b ∷ ys) h = absurd h
zip_long R (a ∷ xs) [] h = absurd h
zip_long R (a ∷ xs) (b ∷ ys) h = ap (λ n. suc n) (zip_long R xs ys h.1)
