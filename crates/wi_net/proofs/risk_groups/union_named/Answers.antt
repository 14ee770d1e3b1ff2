use Rattle.std.proofs.Common.{◌≡◌, [], drop}
use Rattle.std.proofs.Math.ListN.{drop_of_length-le}
use Rattle.wi_net.proofs.risk_groups.union_named.Goals as goal

pub returns : goal.returns
returns c =
    let none_left : drop c.loop-risk.risk-index c.args.risks.now ≡ [] = drop_of_length-le c.args.risks.now c.loop-risk-test.false in
    rw none_left at c.loop-risk.invariant
