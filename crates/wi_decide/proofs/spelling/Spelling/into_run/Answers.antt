use Rattle.std.proofs.Common.{rules}
use Rattle.wi_decide.proofs.spelling.Spelling.into_run.Goals as goal

pub returns : goal.returns
returns c = search rules
