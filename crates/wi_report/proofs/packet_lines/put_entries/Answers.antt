use Rattle.wi_wire.proofs.ReadingLemmas.{each_next}
use Rattle.wi_report.specs.Packets.{entry_shown}
use Rattle.wi_report.proofs.packet_lines.put_entries.Goals as goal

pub loop-i-preserved : goal.loop-i-preserved
loop-i-preserved c = each_next entry_shown _ _ (record { label = 0; exp = 0; ttl = 0 }) _ _ _ c.loop-i-test.true c.in_ok-put_entry.ensures c.loop-i.invariant
