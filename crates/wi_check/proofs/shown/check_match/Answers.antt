use Rattle.std.proofs.Common.{rules}
use Rattle.wi_check.proofs.shown.check_match.Goals as goal

pub returns-then-not-branch-3-clause-passed : goal.returns-then-not-branch-3-clause-passed
returns-then-not-branch-3-clause-passed c = search rules
