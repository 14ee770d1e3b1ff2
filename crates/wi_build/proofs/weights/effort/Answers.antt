use Rattle.std.proofs.Common.{rules}
use Rattle.wi_build.proofs.weights.effort.Goals as goal

pub returns : goal.returns
returns c = search rules
