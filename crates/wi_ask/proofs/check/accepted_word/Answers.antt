use Rattle.std.proofs.Common.{rules}
use Rattle.wi_ask.proofs.check.accepted_word.Goals as goal

pub returns-in-Err : goal.returns-in-Err
returns-in-Err c = search rules
