use Rattle.wi_settle.proofs.OutageLaws.{during_kept}
use Rattle.wi_settle.proofs.during.ask_during.Goals as goal

pub returns-clause-settled : goal.returns-clause-settled
returns-clause-settled c = during_kept c.note.result c.args.problem.now c.args.outage.now c.args.settled.now c.note.new.self c.in_ok-reply.reply c.in_ok-reply.ensures c.note.ensures.ok c.note.ensures.err
