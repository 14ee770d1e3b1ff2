-- What holds of sums of lists, place by place. The lists may have any lengths where nothing else is said.
use Rattle.std.specs.Prelude.{◌≡◌, ℕ, zero, suc, ◌+◌, ◌<◌, ◌≤◌, List, [], ◌∷◌, ◌++◌, length, refl, slice_index, replicate, take, drop}
use Rattle.std.proofs.Common.{sym, ap, ◌∙◌, arith, add_assoc, add-zero, zero-add}
use Rattle.wi_weight.specs.Weights.{plus, EachBelow}

pub same_cons : {x y : ℕ} {a b : List ℕ} → x ≡ y → a ≡ b → x ∷ a ≡ y ∷ b
same_cons first rest = cc

plus_nil : (a : List ℕ) → a ≡ plus a []
plus_nil [] = refl
plus_nil (x ∷ a) = refl

pub plus_assoc : (a b c : List ℕ) → plus (plus a b) c ≡ plus a (plus b c)
plus_assoc [] b c = refl
plus_assoc (x ∷ a) [] c = refl
plus_assoc (x ∷ a) (y ∷ b) [] = refl
plus_assoc (x ∷ a) (y ∷ b) (z ∷ c) = same_cons (add_assoc x y z) (plus_assoc a b c)

pub plus_comm : (a b : List ℕ) → plus a b ≡ plus b a
plus_comm [] [] = refl
plus_comm [] (y ∷ b) = refl
plus_comm (x ∷ a) [] = refl
plus_comm (x ∷ a) (y ∷ b) = let turned : x + y ≡ y + x = omega arith in same_cons turned (plus_comm a b)

-- each component of a sum is the sum of the two components at its place
pub plus_at : (a b : List ℕ) (i : ℕ) → slice_index (plus a b) i ≡ slice_index a i + slice_index b i
plus_at [] b i = sym (zero-add _)
plus_at (x ∷ a) [] i = sym (add-zero _)
plus_at (x ∷ a) (y ∷ b) zero = refl
plus_at (x ∷ a) (y ∷ b) (suc i) = plus_at a b i

-- lists of one length have a sum of that length
pub length-plus : (n : ℕ) (a b : List ℕ) → length a ≡ n → length b ≡ n → length (plus a b) ≡ n
length-plus n [] b h k = k
length-plus n (x ∷ a) [] h k = h
length-plus zero (x ∷ a) (y ∷ b) h k = cc
length-plus (suc n) (x ∷ a) (y ∷ b) h k = ap suc (length-plus n a b (omega arith) (omega arith))

pub zero_plus : (n : ℕ) (a : List ℕ) → length a ≡ n → plus (replicate n 0) a ≡ a
zero_plus zero a h = refl
zero_plus (suc n) [] h = cc
zero_plus (suc n) (x ∷ a) h = same_cons (zero-add x) (zero_plus n a (omega arith))

pub plus_zero : (n : ℕ) (a : List ℕ) → length a ≡ n → plus a (replicate n 0) ≡ a
plus_zero n a h = plus_comm a (replicate n 0) ∙ zero_plus n a h

pub take_plus : (n : ℕ) (a b : List ℕ) → take n (plus a b) ≡ plus (take n a) (take n b)
take_plus zero a b = refl
take_plus (suc n) [] b = refl
take_plus (suc n) (x ∷ a) [] = refl
take_plus (suc n) (x ∷ a) (y ∷ b) = ap (λ (r : List ℕ). (x + y) ∷ r) (take_plus n a b)

pub drop_plus : (n : ℕ) (a b : List ℕ) → drop n (plus a b) ≡ plus (drop n a) (drop n b)
drop_plus zero a b = refl
drop_plus (suc n) [] b = refl
drop_plus (suc n) (x ∷ a) [] = plus_nil (drop n a)
drop_plus (suc n) (x ∷ a) (y ∷ b) = drop_plus n a b

-- two lists side by side are added part by part
pub plus-append : (a b c d : List ℕ) → length a ≡ length c → plus (a ++ b) (c ++ d) ≡ plus a c ++ plus b d
plus-append [] b [] d h = refl
plus-append [] b (y ∷ c) d h = cc
plus-append (x ∷ a) b [] d h = cc
plus-append (x ∷ a) b (y ∷ c) d h = ap (λ (r : List ℕ). (x + y) ∷ r) (plus-append a b c d (omega arith))

-- what is below a bound is below each higher one
pub each_below_more : (a b : ℕ) → a ≤ b → (xs : List ℕ) → EachBelow a xs → EachBelow b xs
each_below_more a b h [] e = tt
each_below_more a b h (x ∷ xs) e = let k : x < a = e.0 in (omega arith, each_below_more a b h xs e.1)

-- a sum is below the sum of the bounds
pub each_below_plus : (a b : ℕ) (xs ys : List ℕ) → EachBelow a xs → EachBelow b ys → EachBelow (a + b) (plus xs ys)
each_below_plus a b [] ys h k = each_below_more b (a + b) (omega arith) ys k
each_below_plus a b (x ∷ xs) [] h k = each_below_more a (a + b) (omega arith) (x ∷ xs) h
each_below_plus a b (x ∷ xs) (y ∷ ys) h k = let i : x < a = h.0 in let j : y < b = k.0 in (omega arith, each_below_plus a b xs ys h.1 k.1)

-- two lists side by side are below a bound where each of them is
pub each_below_first : (n : ℕ) (a b : List ℕ) → EachBelow n (a ++ b) → EachBelow n a
each_below_first n [] b h = tt
each_below_first n (x ∷ a) b h = (h.0, each_below_first n a b h.1)

pub each_below_second : (n : ℕ) (a b : List ℕ) → EachBelow n (a ++ b) → EachBelow n b
each_below_second n [] b h = h
each_below_second n (x ∷ a) b h = each_below_second n a b h.1

pub each_below_both : (n : ℕ) (a b : List ℕ) → EachBelow n a → EachBelow n b → EachBelow n (a ++ b)
each_below_both n [] b h k = k
each_below_both n (x ∷ a) b h k = (h.0, each_below_both n a b h.1 k)
