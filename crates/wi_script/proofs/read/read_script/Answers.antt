use Rattle.wi_script.proofs.Known.{read_known}
use Rattle.wi_script.proofs.Scripts.{refused_later, refused_as}
use Rattle.wi_script.proofs.read.read_script.Goals as goal

pub returns-in_err-events-clause-refused : goal.returns-in_err-events-clause-refused
returns-in_err-events-clause-refused c =
    refused_as _ _ _ _ c.from_residual-in_err-events.ensures.1 (refused_later _ _ _ _ _ _ _ c.in-Some.ensures c.in_ok-first.ensures c.in_err-events.ensures)

pub returns-clause-known : goal.returns-clause-known
returns-clause-known c =
    rw c.of.ensures (read_known c.args.net.now (c.in_ok-first.first, c.in_ok-first.header) c.in-Some.line.now c.in-Some.rest.now c.in_ok-events.events.items c.in_ok-first.ensures c.in_ok-events.ensures)
