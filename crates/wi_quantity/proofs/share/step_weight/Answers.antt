use Rattle.std.proofs.Common.{rules}
use Rattle.wi_quantity.proofs.share.step_weight.Goals as goal

pub returns-clause-value : goal.returns-clause-value
returns-clause-value c = search rules
