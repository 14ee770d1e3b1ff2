use Rattle.std.proofs.Common.{ap}
use Rattle.wi_net.specs.declared.bounds.Bounds.{Bounds}
use Rattle.wi_settle.proofs.OutageLaws.{free_settled}
use Rattle.wi_settle.proofs.settling.settle_groups.Goals as goal

pub returns-then-free-k : goal.returns-then-free-k
returns-then-free-k c =
    free_settled c.args.problem.now c.args.settled.now c.keep.new.self c.new.result c.free_groups-free.result c.bounds.result.now.k c.keeps.ensures.problem (rw (c.net.ensures, c.bounds-2.ensures) at c.free_groups-free.ensures) (ap (λ (b : Bounds). b.k) c.bounds.ensures) c.if-free-k.true c.requires.no c.new.ensures c.requires.settled c.keep.ensures
