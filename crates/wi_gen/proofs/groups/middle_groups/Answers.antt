-- The groups are those that are stated.
use Rattle.std.proofs.Common.{rules}
use Rattle.wi_gen.proofs.groups.middle_groups.Goals as goal

pub returns : goal.returns
returns c = search rules
