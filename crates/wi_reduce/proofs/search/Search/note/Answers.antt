use Rattle.std.proofs.Common.{rules}
use Rattle.wi_reduce.proofs.search.Search.note.Goals as goal

pub returns-in_ok-add-in-Two-2 : goal.returns-in_ok-add-in-Two-2
returns-in_ok-add-in-Two-2 c = search rules
