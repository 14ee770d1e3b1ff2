use Rattle.std.proofs.Common.{rules}
use Rattle.wi_faults.proofs.numbers.components_of.Goals as goal

pub returns : goal.returns
returns c = search rules
