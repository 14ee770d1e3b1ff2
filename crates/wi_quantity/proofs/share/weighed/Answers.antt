use Rattle.std.proofs.Common.{◌∙◌}
use Rattle.wi_quantity.specs.private.Shares.{share_of}
use Rattle.wi_quantity.proofs.ShareLemmas.{five_terms}
use Rattle.wi_quantity.proofs.share.weighed.Goals as goal

pub returns-clause-value : goal.returns-clause-value
returns-clause-value c =
    five_terms (share_of c.args.shares) c.as_slice-terms.result.now c.args.vector.now _ _ _ _ _ (c.as_slice-terms.ensures.value ∙ c.vector.view_is)
    c.value_at.ensures.value c.value_at-2.ensures.value c.value_at-3.ensures.value c.value_at-4.ensures.value c.value_at-5.ensures.value
