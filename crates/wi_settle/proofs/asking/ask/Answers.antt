use Rattle.wi_settle.proofs.Answering.{open_reply, reply_ok}
use Rattle.wi_settle.proofs.asking.ask.Goals as goal

pub returns-in-Ok : goal.returns-in-Ok
returns-in-Ok c = reply_ok c.reply_of.result c.args.problem.now c.in-Ok.answer (rw c.bounds.ensures at c.in-Ok.ensures.answered).exact.holds (rw c.net.ensures at c.reply_of.ensures)

pub returns-in-Err : goal.returns-in-Err
returns-in-Err c = open_reply c.open_for.result c.args.problem.now c.in-Err.cause c.open_for.ensures.open c.open_for.ensures.decided (rw c.bounds.ensures at c.in-Err.ensures.refused)
