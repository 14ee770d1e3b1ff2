use Rattle.std.proofs.Common.{◌∙◌}
use Rattle.wi_quantity.proofs.ShareLemmas.{same_values, end_shares}
use Rattle.wi_quantity.proofs.share.end_weight.Goals as goal

pub returns-clause-value : goal.returns-clause-value
returns-clause-value c = c.weighed.ensures.value ∙ same_values _ _ c.args.vector.now (end_shares c.args.failures)
