use Rattle.wi_report.proofs.PacketLemmas.{refused_known, refused_shown, stack_shown}
use Rattle.wi_report.proofs.packet_lines.put_on_wire.Goals as goal

pub put_refused-requires : goal.put_refused-requires
put_refused-requires c = refused_known c.args.net.now c.args.header.now _ c.keeps.ensures c.requires c.in-Err.ensures.refused

pub returns-in-Ok : goal.returns-in-Ok
returns-in-Ok c = stack_shown _ c.args.net.now c.args.header.now _ _ _ c.in-Ok.ensures.entries (rw c.as_slice.ensures.value at c.put_stack.ensures)

pub returns-in-Err : goal.returns-in-Err
returns-in-Err c = refused_shown _ c.args.net.now c.args.header.now _ _ _ c.put_refused.ensures.memory c.in-Err.ensures.refused c.put_refused.ensures.said
