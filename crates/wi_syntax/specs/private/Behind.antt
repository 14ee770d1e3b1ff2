-- What stands behind the front of a query that asks for anything.
use Rattle.std.specs.Prelude.{◌≡◌, ℕ, ◌≤◌, List, [], ◌∷◌, Option, Some, None}
use Rattle.wi_syntax.specs.declared.written.LabelAtom.TheVariants as label
use Rattle.wi_syntax.specs.declared.written.LinkAtom.TheVariants as link
use Rattle.wi_syntax.specs.declared.written.End.{End}
use Rattle.wi_syntax.specs.declared.written.End.TheVariants as end
use Rattle.wi_syntax.specs.declared.written.Pair.{Pair}
use Rattle.wi_syntax.specs.declared.written.Sign.TheVariants as sign
use Rattle.wi_syntax.specs.declared.written.Known.{Known}
use Rattle.wi_syntax.specs.declared.written.Last.TheVariants.{Header}
use Rattle.wi_syntax.specs.declared.written.Written.{Written}

-- nothing of an end begins before a byte, nor of pairs, nor of a list that is known
abbrev pub IsEndFrom : ℕ → End → Type 0
IsEndFrom n (end.Any at) = n ≤ at
IsEndFrom n (end.Router router) = n ≤ router.at
IsEndFrom n (end.Interface router interface) = (n ≤ router.at) × (n ≤ interface.at)

abbrev pub ArePairsFrom : ℕ → List Pair → Type 0
ArePairsFrom n [] = Unit {0}
ArePairsFrom n (pair ∷ pairs) = IsEndFrom n pair.from × IsEndFrom n pair.to × ArePairsFrom n pairs

abbrev pub IsKnownFrom : ℕ → Option Known → Type 0
IsKnownFrom n None = Unit {0}
IsKnownFrom n (Some known) = ArePairsFrom n known.pairs

-- each expression is `.`, and no list of links begins before a byte
pub record IsBehind (n : ℕ) (w : Written) : Type 0 where
  pub first : w.first ≡ sign.Atom label.Any ∷ []
  pub path : w.path ≡ sign.Atom link.Any ∷ []
  pub last : w.last ≡ Header (sign.Atom label.Any ∷ [])
  pub down : IsKnownFrom n w.down
  pub up : IsKnownFrom n w.up
