use Rattle.std.proofs.Common.{rules}
use Rattle.wi_protect.proofs.rows.next_groups.Goals as goal

pub returns-in-len1-up : goal.returns-in-len1-up
returns-in-len1-up c = search rules
