use Rattle.std.proofs.Common.{◌+◌, ◌^◌, ◌≤◌, length, arith, sym}
use Rattle.std.proofs.lemmas.Result.{IfOk-weaker}
use Rattle.wi_check.proofs.WeightLemmas.{member_kept}
use Rattle.wi_check.proofs.weighed.end_work.Goals as goal

pub returns-in-Some-clause-few : goal.returns-in-Some-clause-few
returns-in-Some-clause-few c =
    let few = (member_kept c.args.net.now c.keeps.ensures c.args.at.now c.in-Undefined.step c.in-Some.member.now (sym c.in-Some.ensures)).few in
    IfOk-weaker c.work_before.result (λ n. n ≤ 2 ^ 64 + length c.in-Some.member.now.ops) (λ n. n ≤ 2 ^ 64 + 8) (λ n low. omega (arith, low, few)) c.work_before.ensures.few
