use Rattle.std.proofs.Common.{arith}
use Rattle.wi_branch.proofs.ToleranceLaws.{none_past}
use Rattle.wi_branch.proofs.counting.from_none.Goals as goal

pub none_up_to-requires-clause-none : goal.none_up_to-requires-clause-none
none_up_to-requires-clause-none c = none_past c.args.problem.now c.last_tried-last.result c.args.most c.last_tried-last.ensures (rw c.in-TooFew.is at c.in_ok-found.ensures.tried).0

pub returns-in-Enough-clause-tolerance : goal.returns-in-Enough-clause-tolerance
returns-in-Enough-clause-tolerance c = (rw c.in-Enough.is at c.in_ok-found.ensures.tried) c.args.most (omega (arith, c.last_tried-last.ensures))
