-- Pairs that mean no link, looked for one by one.
use Rattle.std.specs.Prelude.{ℕ, ◌<◌, Bool, length, List, Option, Some, None}
use Rattle.std.specs.List.{find, list_any}
use Rattle.std.specs.Option.{option_map}
use Rattle.wi_net.specs.declared.parts.LinkId.{LinkId}
use Rattle.wi_net.specs.Net.{Net, all_links}
use Rattle.wi_syntax.specs.Atoms.{pair_at}
use Rattle.wi_syntax.specs.declared.written.Pair.{Pair}
use Rattle.wi_query.specs.Linked.{is_linkless}
use Rattle.wi_query.specs.private.Names.{is_between}
use Rattle.wi_query.specs.declared.names.EndMeant.{EndMeant}
use Rattle.wi_query.specs.declared.names.EndMeant.TheVariants.{Any, At, By}
use Rattle.wi_query.specs.declared.names.Ends.{Ends}

-- the one link that may have an end, and both ends, where an end stands for one
abbrev pub one_by : EndMeant → Option LinkId
one_by (By link) = Some link
one_by Any = None
one_by (At router) = None

abbrev pub one_between : Ends → Option LinkId
one_between ends = elim (one_by ends.source) [ Some link ↦ Some link | None ↦ one_by ends.target ]

-- it is there
abbrev pub IsThere : Net → Option LinkId → Type 0
IsThere net None = Unit {0}
IsThere net (Some link) = link.0 < length net.links

-- some link is one that both ends stand for
abbrev pub has_link : Net → Ends → Bool
has_link net ends = list_any (λ e. is_between net ends e.0) (all_links net)

-- the byte where the first of some pairs begins that means no link
abbrev pub linkless_at : Net → List Pair → Option ℕ
linkless_at net pairs = option_map pair_at (find (is_linkless net) pairs)
