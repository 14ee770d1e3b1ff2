-- Pairs that mean no link, and queries all of whose pairs mean one.
use Rattle.std.specs.Prelude.{◌≡◌, ℕ, Bool, true, false, List, [], ◌∷◌, ◌++◌, Option, Some, None}
use Rattle.std.specs.List.{find, flat_map}
use Rattle.std.specs.Option.{option_map}
use Rattle.wi_net.specs.Net.{Net, links_where}
use Rattle.wi_syntax.specs.Atoms.{pair_at}
use Rattle.wi_syntax.specs.declared.written.Known.{Known}
use Rattle.wi_syntax.specs.declared.written.LinkAtom.{LinkAtom}
use Rattle.wi_syntax.specs.declared.written.LinkAtom.TheVariants as link
use Rattle.wi_syntax.specs.declared.written.Pair.{Pair}
use Rattle.wi_syntax.specs.declared.written.Sign.{Sign}
use Rattle.wi_syntax.specs.declared.written.Sign.TheVariants as sign
use Rattle.wi_syntax.specs.declared.written.Written.{Written}
use Rattle.wi_query.specs.Sets.{is_link_between}
use Rattle.wi_query.specs.Meaning.{IsQuery}
use Rattle.wi_query.specs.Faults.{IsFault}
use Rattle.wi_query.specs.declared.query.Query.{Query}
use Rattle.wi_query.specs.declared.strict.StrictFault.{StrictFault}
use Rattle.wi_query.specs.declared.strict.StrictFault.TheVariants.{InQuery, NoLink}

-- a pair means no link of the network
abbrev pub is_linkless : Net → Pair → Bool
is_linkless net pair = elim (links_where net (λ e. is_link_between net pair e.0)) [ [] ↦ true | (e ∷ more) ↦ false ]

-- the pairs of a sign, of a list of links that are known, and of a query, in the order of the text
abbrev pub pairs_in_sign : Sign LinkAtom → List Pair
pairs_in_sign (sign.Atom (link.List except pairs)) = pairs
pairs_in_sign s = []

abbrev pub pairs_in_known : Option Known → List Pair
pairs_in_known None = []
pairs_in_known (Some known) = known.pairs

abbrev pub pairs_in : Written → List Pair
pairs_in w = flat_map pairs_in_sign w.path ++ (pairs_in_known w.down ++ pairs_in_known w.up)

-- the first pair of a query that means no link
abbrev pub first_linkless : Net → Written → Option Pair
first_linkless net w = find (is_linkless net) (pairs_in w)

-- the text is a query of the network whose pairs all mean links
abbrev pub IsStrictQuery : Net → List ℕ → Query → Type 0
IsStrictQuery net text query = (is : IsQuery net text query) × (first_linkless net is.written ≡ None)

-- its first fault, where a pair that means no link is one, behind all others
abbrev pub IsStrictFault : Net → List ℕ → StrictFault → Type 0
IsStrictFault net text (InQuery fault) = IsFault net text fault
IsStrictFault net text (NoLink at) = (query : Query) × (is : IsQuery net text query) × (option_map pair_at (first_linkless net is.written) ≡ Some at)
