-- Expressions, and how they are written.
--
--     expression = sequence { "|" sequence }
--     sequence   = item { item }
--     item       = atom { "*" | "+" | "?" }   or   "(" expression ")" { "*" | "+" | "?" }
use Rattle.std.specs.Prelude.{◌≡◌, Bool, true, false, ◌&&◌, List, [], ◌∷◌}
use Rattle.wi_syntax.specs.declared.token.Mark.TheVariants.{OpenRound, CloseRound, Star, Plus, Question, Bar}
use Rattle.wi_syntax.specs.declared.token.Token.TheVariants.{Mark}
use Rattle.wi_syntax.specs.declared.written.Sign.{Sign}
use Rattle.wi_syntax.specs.declared.written.Sign.TheVariants as sign
use Rattle.wi_syntax.specs.Atoms.{Writer}

-- how an expression is made
pub data Tree (A : Type 0) : Type 0 where
  Leaf : A → Tree A
  Starred Plussed Optional Grouped : Tree A → Tree A
  Then Or : (first next : Tree A) → Tree A

-- its signs, before other signs
abbrev pub signs_of : {A : Type 0} → Tree A → List (Sign A) → List (Sign A)
signs_of (Leaf a) rest = sign.Atom a ∷ rest
signs_of (Starred t) rest = signs_of t (sign.Star ∷ rest)
signs_of (Plussed t) rest = signs_of t (sign.Plus ∷ rest)
signs_of (Optional t) rest = signs_of t (sign.Maybe ∷ rest)
signs_of (Grouped t) rest = sign.Open ∷ signs_of t (sign.Close ∷ rest)
signs_of (Then a b) rest = signs_of a (signs_of b rest)
signs_of (Or a b) rest = signs_of a (sign.Or ∷ signs_of b rest)

-- where a tree may stand
pub data Level : Type 0 where
  AnItem ASequence AnExpression : Level

-- signs bind tightest and `|` loosest, both from the left; an atom has to pass a test
abbrev pub is_tree : {A : Type 0} → (A → Bool) → Level → Tree A → Bool
is_tree p level (Leaf a) = p a
is_tree p level (Starred t) = is_tree p AnItem t
is_tree p level (Plussed t) = is_tree p AnItem t
is_tree p level (Optional t) = is_tree p AnItem t
is_tree p level (Grouped t) = is_tree p AnExpression t
is_tree p AnItem (Then a b) = false
is_tree p _ (Then a b) = is_tree p ASequence a && is_tree p AnItem b
is_tree p AnExpression (Or a b) = is_tree p AnExpression a && is_tree p ASequence b
is_tree p _ (Or a b) = false

-- these are the signs of an expression
abbrev pub IsExpression : {A : Type 0} → (A → Bool) → List (Sign A) → Type 0
IsExpression {A} p signs = (t : Tree A) × (is_tree p AnExpression t ≡ true) × (signs_of t [] ≡ signs)

-- the tokens of a sign, and of signs, before other tokens
abbrev pub sign_tokens : {A : Type 0} → Writer A → Writer (Sign A)
sign_tokens write (sign.Atom a) rest = write a rest
sign_tokens write sign.Open rest = Mark OpenRound ∷ rest
sign_tokens write sign.Close rest = Mark CloseRound ∷ rest
sign_tokens write sign.Star rest = Mark Star ∷ rest
sign_tokens write sign.Plus rest = Mark Plus ∷ rest
sign_tokens write sign.Maybe rest = Mark Question ∷ rest
sign_tokens write sign.Or rest = Mark Bar ∷ rest

abbrev pub signs_tokens : {A : Type 0} → Writer A → Writer (List (Sign A))
signs_tokens write [] rest = rest
signs_tokens write (s ∷ signs) rest = sign_tokens write s (signs_tokens write signs rest)
