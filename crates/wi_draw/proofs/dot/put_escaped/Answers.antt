use Rattle.wi_draw.specs.Dot.{escaped_byte}
use Rattle.wi_draw.proofs.DrawingLemmas.{byte_left}
use Rattle.wi_draw.proofs.dot.put_escaped.Goals as goal

pub loop-byte-preserved : goal.loop-byte-preserved
loop-byte-preserved c = byte_left escaped_byte _ _ 0 _ _ _ c.loop-byte-test.true c.loop-byte.invariant c.in_ok-put_escaped_byte.ensures
