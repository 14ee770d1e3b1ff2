use Rattle.std.proofs.Common.{rules}
use Rattle.wi_outage.proofs.groups.group_of.Goals as goal

pub returns : goal.returns
returns c = search rules
