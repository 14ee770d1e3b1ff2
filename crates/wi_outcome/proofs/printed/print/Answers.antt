use Rattle.std.proofs.Common.{rules}
use Rattle.wi_outcome.proofs.Printing.{not_printed}
use Rattle.wi_outcome.proofs.printed.print.Goals as goal

pub returns-in-Ok-clause-printed : goal.returns-in-Ok-clause-printed
returns-in-Ok-clause-printed g c = search rules

pub returns-in-Err-clause-printed : goal.returns-in-Err-clause-printed
returns-in-Err-clause-printed g c =
    not_printed c.put.result c.in-Err.refused _ _ _ (g.O.Sink.seen c.args.out.now) (g.O.Sink.seen c.put.new.self) (g.E.Sink.seen c.args.err.now) (g.E.Sink.seen c.say_unprinted.new.err) _ c.in-Err.is c.as_bytes.ensures c.requires.out
    c.put.ensures.failed c.put.ensures.memory c.put.ensures.faults c.say_unprinted.ensures.said
