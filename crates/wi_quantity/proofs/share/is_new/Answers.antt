use Rattle.std.proofs.Common.{rules}
use Rattle.wi_quantity.proofs.share.is_new.Goals as goal

pub returns-then-not-has_risk : goal.returns-then-not-has_risk
returns-then-not-has_risk c = search rules
