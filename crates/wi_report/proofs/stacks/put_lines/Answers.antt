use Rattle.wi_wire.proofs.ReadingLemmas.{each_next}
use Rattle.wi_report.specs.Stacks.{entry_line}
use Rattle.wi_report.proofs.stacks.put_lines.Goals as goal

pub loop-i-preserved : goal.loop-i-preserved
loop-i-preserved c = each_next entry_line _ _ (record { label = 0; exp = 0; ttl = 0 }) _ _ _ c.loop-i-test.true c.in_ok-put_line.ensures c.loop-i.invariant
