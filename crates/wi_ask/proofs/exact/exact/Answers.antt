use Rattle.wi_ask.proofs.Exactly.{reported_at, unanswered}
use Rattle.wi_ask.proofs.exact.exact.Goals as goal

pub returns-in-None-clause-reported : goal.returns-in-None-clause-reported
returns-in-None-clause-reported g c = rw c.in-None.is (reported_at c.reported.result c.args.problem.now (g.S.Shelf.seen c.args.shelf.now) c.reported.ensures.reported)

pub returns-in-None-clause-refused : goal.returns-in-None-clause-refused
returns-in-None-clause-refused g c = unanswered c.reported.result (g.S.Shelf.seen c.args.shelf.now) c.args.problem.now _ c.reported.ensures.refused
