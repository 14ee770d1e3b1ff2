use Rattle.std.proofs.Common.{rules}
use Rattle.wi_check.proofs.shown.check_terms.Goals as goal

pub returns-then-shown-count-clause-passed : goal.returns-then-shown-count-clause-passed
returns-then-shown-count-clause-passed c = search rules
