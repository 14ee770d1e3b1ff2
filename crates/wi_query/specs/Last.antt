-- The last part of a query: what it asks of the packet's end.
use Rattle.std.specs.Prelude.{Bool, true, false, List, [], ◌∷◌}
use Rattle.wi_syntax.specs.declared.written.LabelAtom.{LabelAtom}
use Rattle.wi_syntax.specs.declared.written.LabelAtom.TheVariants as label
use Rattle.wi_syntax.specs.declared.written.Last.{Last}
use Rattle.wi_syntax.specs.declared.written.Last.TheVariants.{Header, Dropped}
use Rattle.wi_syntax.specs.declared.written.Sign.{Sign}
use Rattle.wi_syntax.specs.declared.written.Sign.TheVariants as sign

-- the signs of the last header, which is any of a packet that is dropped
abbrev pub last_signs : Last → List (Sign LabelAtom)
last_signs (Header signs) = signs
last_signs (Dropped at) = sign.Atom label.Any ∷ sign.Star ∷ []

abbrev pub is_dropped : Last → Bool
is_dropped (Header signs) = false
is_dropped (Dropped at) = true
