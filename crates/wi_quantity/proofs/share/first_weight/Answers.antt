use Rattle.std.proofs.Common.{◌∙◌}
use Rattle.wi_quantity.proofs.ShareLemmas.{same_values}
use Rattle.wi_quantity.proofs.share.first_weight.Goals as goal

pub returns-clause-value : goal.returns-clause-value
returns-clause-value c = c.weighed.ensures.value ∙ same_values _ _ c.args.vector.now c.of.ensures
