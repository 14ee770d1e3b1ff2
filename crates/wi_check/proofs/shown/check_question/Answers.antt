use Rattle.std.proofs.Common.{rules}
use Rattle.wi_check.proofs.shown.check_question.Goals as goal

pub returns-else-is_some-query-clause-passed : goal.returns-else-is_some-query-clause-passed
returns-else-is_some-query-clause-passed c = search rules
