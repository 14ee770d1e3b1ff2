use Rattle.std.proofs.Common.{rules}
use Rattle.wi_build.proofs.weights.counted.Goals as goal

pub returns : goal.returns
returns c = search rules
