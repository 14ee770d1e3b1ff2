use Rattle.wi_settle.proofs.OutageLaws.{kept_settled, kept_next}
use Rattle.wi_settle.proofs.settling.keep_up_one.Goals as goal

pub returns-clause-settled : goal.returns-clause-settled
returns-clause-settled c =
    kept_settled c.args.problem.now c.args.bounds.now c.args.settled.now _ _ c.in_ok-reply.reply c.keeps.ensures.problem c.requires.none c.requires.kept (rw c.within.ensures at c.in_ok-reply.ensures) c.requires.settled c.in_ok-keep_where_none.ensures c.in_ok-note.ensures.ok

pub returns-clause-kept : goal.returns-clause-kept
returns-clause-kept c =
    rw c.in_ok-goes_on.ensures (kept_next c.args.problem.now c.args.bounds.now c.in_ok-reply.reply (rw c.within.ensures at c.in_ok-reply.ensures) c.requires.kept)
