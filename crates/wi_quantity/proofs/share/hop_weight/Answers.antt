use Rattle.std.proofs.Common.{◌∙◌, ap, ◌≤◌, arith}
use Rattle.wi_quantity.specs.Weighing.{growth}
use Rattle.wi_quantity.proofs.ShareLemmas.{same_values, hop_shares, growth_small}
use Rattle.wi_quantity.proofs.share.hop_weight.Goals as goal

pub overflow_cast-shares-2 : goal.overflow_cast-shares-2
overflow_cast-shares-2 c =
    let few : c.growth.result ≤ 8 = growth_small c.args.net.now c.args.member.now c.growth.result (c.growth.ensures ∙ ap growth c.as_slice.ensures) c.requires.member in
    omega (arith, few)

pub returns-clause-value : goal.returns-clause-value
returns-clause-value c =
    c.weighed.ensures.value
    ∙ same_values _ _ c.args.vector.now (hop_shares c.args.net.now c.args.member.now c.args.failures c.growth.result c.of-link.result c.of-link.ensures (c.growth.ensures ∙ ap growth c.as_slice.ensures))
