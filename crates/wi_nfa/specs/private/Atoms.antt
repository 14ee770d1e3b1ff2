-- The atoms of an expression.
use Rattle.std.specs.Prelude.{◌≡◌, ℕ, Bool, List, [], ◌∷◌, ◌++◌}
use Rattle.wi_regex.specs.declared.regex.Regex.{Regex}
use Rattle.wi_regex.specs.declared.regex.Regex.TheVariants.{Atom, Concat', Either', Star', Plus', Maybe'}

-- the atoms have the sets of the expression's atoms, in order
abbrev pub HasSets : {A : Type 0} → (A → ℕ → Bool) → Regex A → List A → Type 0
HasSets {A} set (Atom a) xs = (b : A) × ((x : ℕ) → set b x ≡ set a x) × (xs ≡ b ∷ [])
HasSets {A} set (Concat' _ a _ b) xs = (u v : List A) × HasSets set a u × HasSets set b v × (xs ≡ u ++ v)
HasSets {A} set (Either' _ a _ b) xs = (u v : List A) × HasSets set a u × HasSets set b v × (xs ≡ u ++ v)
HasSets {A} set (Star' _ a) xs = HasSets set a xs
HasSets {A} set (Plus' _ a) xs = HasSets set a xs
HasSets {A} set (Maybe' _ a) xs = HasSets set a xs

-- new is old and atoms with the sets of the expression's
pub record AddsAtoms {A : Type 0} (set : A → ℕ → Bool) (r : Regex A) (old new : List A) : Type 0 where
  pub added : List A
  pub sets : HasSets set r added
  pub are : new ≡ old ++ added
