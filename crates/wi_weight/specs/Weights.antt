-- Weights: lists of numbers of one length, added place by place, in a total order that addition keeps.
use Rattle.std.specs.Prelude.{◌≡◌, ℕ, ◌+◌, ◌<◌, ◌≢◌, List, [], ◌∷◌, length, replicate}
use Rattle.std.specs.declared.cmp.Ordering.{Ordering}
use Rattle.std.specs.declared.cmp.Ordering.TheVariants.{Less, Equal, Greater}
use Rattle.std.specs.Ordering.{ordering_reverse}

-- how many components the weights of a type have, and their order
pub record Scale : Type 0 where
  pub arity : ℕ
  pub order : List ℕ → List ℕ → Ordering

-- the scale admits the list: it has the right number of components
abbrev pub IsWeight : Scale → List ℕ → Type 0
IsWeight m a = length a ≡ m.arity

-- the sum, place by place; where one list is longer, its rest is taken over
abbrev pub plus : List ℕ → List ℕ → List ℕ
plus [] ys = ys
plus (x ∷ xs) [] = x ∷ xs
plus (x ∷ xs) (y ∷ ys) = (x + y) ∷ plus xs ys

-- the weight of doing nothing
abbrev pub zero_weight : Scale → List ℕ
zero_weight m = replicate m.arity 0

-- a weighs less than b
abbrev pub Below : Scale → List ℕ → List ℕ → Type 0
Below m a b = m.order a b ≡ Less

-- a weighs no more than b
abbrev pub AtMost : Scale → List ℕ → List ℕ → Type 0
AtMost m a b = m.order a b ≢ Greater

-- each component is below the bound
abbrev pub EachBelow : ℕ → List ℕ → Type 0
EachBelow bound [] = Unit {0}
EachBelow bound (x ∷ xs) = (x < bound) × EachBelow bound xs

-- what holds of the weights of each type; a, b and c are any lists that its scale admits, with components of any size
pub record WeightLaws (m : Scale) : Type 0 where
  -- every sum is admitted
  pub sum : (a b : List ℕ) → IsWeight m a → IsWeight m b → IsWeight m (plus a b)
  -- of three weights, it doesn't matter which two are added first
  pub assoc : (a b c : List ℕ) → IsWeight m a → IsWeight m b → IsWeight m c → plus (plus a b) c ≡ plus a (plus b c)
  -- doing nothing first adds nothing
  pub unit_left : (a : List ℕ) → IsWeight m a → plus (zero_weight m) a ≡ a
  -- doing nothing last adds nothing
  pub unit_right : (a : List ℕ) → IsWeight m a → plus a (zero_weight m) ≡ a
  -- compared the other way round, the answer is turned round
  pub antisymm : (a b : List ℕ) → IsWeight m a → IsWeight m b → m.order a b ≡ ordering_reverse (m.order b a)
  -- what is less than a lesser weight is less
  pub trans : (a b c : List ℕ) → IsWeight m a → IsWeight m b → IsWeight m c → Below m a b → Below m b c → Below m a c
  -- weights that compare as equal are the same
  pub same : (a b : List ℕ) → IsWeight m a → IsWeight m b → m.order a b ≡ Equal → a ≡ b
  -- less stays less when the same is added after both
  pub strict_right : (a b c : List ℕ) → IsWeight m a → IsWeight m b → IsWeight m c → Below m a b → Below m (plus a c) (plus b c)
  -- less stays less when the same is added before both
  pub strict_left : (a b c : List ℕ) → IsWeight m a → IsWeight m b → IsWeight m c → Below m a b → Below m (plus c a) (plus c b)
  -- a sum is never less than its first part
  pub grows : (a c : List ℕ) → IsWeight m a → IsWeight m c → AtMost m a (plus a c)
