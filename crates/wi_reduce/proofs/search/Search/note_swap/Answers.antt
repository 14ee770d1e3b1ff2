use Rattle.std.proofs.Common.{rules}
use Rattle.wi_reduce.proofs.search.Search.note_swap.Goals as goal

pub returns-then-g-u : goal.returns-then-g-u
returns-then-g-u c = search rules
