use Rattle.std.proofs.Common.{Ok, ap}
use Rattle.wi_world.proofs.Known.{moved_known}
use Rattle.wi_report.proofs.PacketLemmas.{packets_left}
use Rattle.wi_report.proofs.packet_lines.put_later.Goals as goal

pub put_packet-requires : goal.put_packet-requires
put_packet-requires c = (moved_known _ _ _ _ _ c.keeps.ensures c.loop-i.invariant.header (c.in_ok-follow.ensures.on (ap Ok c.if-not-branch.false))).1

pub loop-i-preserved : goal.loop-i-preserved
loop-i-preserved c =
    let led = c.in_ok-follow.ensures.on (ap Ok c.if-not-branch.false) in
    let known = moved_known _ _ _ _ _ c.keeps.ensures c.loop-i.invariant.header led in
    record {
      link = known.0;
      header = known.1;
      text = packets_left c.args.net.now c.loop-i.at c.follow.new.at c.args.steps.now c.loop-i.i _ _ _ _ c.loop-i-test.true led c.loop-i.invariant.text c.in_ok-put_packet.ensures;
    }
