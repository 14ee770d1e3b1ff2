use Rattle.std.proofs.Common.{rules}
use Rattle.wi_branch.proofs.counting.trial_by.Goals as goal

pub returns-in-Yes : goal.returns-in-Yes
returns-in-Yes c = search rules
