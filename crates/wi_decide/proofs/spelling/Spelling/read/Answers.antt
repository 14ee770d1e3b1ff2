use Rattle.std.proofs.Common.{rules}
use Rattle.wi_decide.proofs.spelling.Spelling.read.Goals as goal

pub returns-in_ok-push-in-Hop : goal.returns-in_ok-push-in-Hop
returns-in_ok-push-in-Hop c = search rules

pub returns-in-Ending : goal.returns-in-Ending
returns-in-Ending c = search rules
