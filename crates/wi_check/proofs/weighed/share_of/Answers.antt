use Rattle.std.proofs.Common.{◌≡◌, List, max, length, sym, ap, ◌∙◌, arith}
use Rattle.wi_labels.specs.declared.ops.Op.{Op}
use Rattle.wi_net.specs.declared.parts.Member.{Member}
use Rattle.wi_net.specs.Net.{before, risk_count}
use Rattle.wi_quantity.specs.Weighing.{hop_weight}
use Rattle.wi_quantity.proofs.RiskLemmas.{before_few}
use Rattle.wi_check.proofs.WeightLemmas.{member_kept, step_weighs}
use Rattle.wi_check.proofs.weighed.share_of.Goals as goal

pub hop_weight-share-requires-clause-member : goal.hop_weight-share-requires-clause-member
hop_weight-share-requires-clause-member c =
    (member_kept c.args.net.now c.keeps.ensures c.args.at.now c.args.step c.in-Some.member.now (sym c.in-Some.ensures)).way

pub hop_weight-share-requires-clause-failures : goal.hop_weight-share-requires-clause-failures
hop_weight-share-requires-clause-failures c =
    let count : c.count.result ≡ risk_count c.args.net.now (before c.args.net.now c.groups_of.result.now c.args.step.group) = c.count.ensures ∙ ap (risk_count c.args.net.now) c.in_ok-before.ensures in
    let few = before_few c.args.net.now c.groups_of.result.now c.args.step.group c.keeps.ensures in
    omega (arith, count, few)

pub returns-clause-weight : goal.returns-clause-weight
returns-clause-weight c =
    step_weighs c.args.net.now c.args.vector.now c.args.at.now c.args.step c.in-Some.member.now _ (sym c.in-Some.ensures)
    (c.hop_weight-share.ensures.value
    ∙ ap (hop_weight c.args.net.now c.args.vector.now c.in-Some.member.now)
    (c.count.ensures ∙ ap (risk_count c.args.net.now) c.in_ok-before.ensures ∙ ap (λ (gs : List (List Member)). risk_count c.args.net.now (before c.args.net.now gs c.args.step.group)) c.groups_of.ensures))

pub returns-clause-few : goal.returns-clause-few
returns-clause-few c =
    let few = (member_kept c.args.net.now c.keeps.ensures c.args.at.now c.args.step c.in-Some.member.now (sym c.in-Some.ensures)).few in
    let ops : c.max.result ≡ max (length c.in-Some.member.now.ops) 1 = c.max.ensures ∙ ap (λ (xs : List Op). max (length xs) 1) c.as_slice.ensures in
    omega (arith, few, ops)
