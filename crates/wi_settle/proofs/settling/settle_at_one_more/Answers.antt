use Rattle.wi_settle.proofs.OutageLaws.{more_settled}
use Rattle.wi_settle.proofs.settling.settle_at_one_more.Goals as goal

pub returns : goal.returns
returns c =
    more_settled c.args.problem.now c.args.settled.now _ _ c.new.result c.args.more c.in_ok-reply.reply c.keeps.ensures.problem c.requires.more c.in_ok-reply.ensures c.new.ensures c.requires.settled c.in_ok-keep_where_none.ensures c.in_ok-note.ensures.ok
