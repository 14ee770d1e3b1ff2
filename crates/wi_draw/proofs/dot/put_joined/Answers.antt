use Rattle.wi_draw.specs.Dot.{joined_byte}
use Rattle.wi_draw.proofs.DrawingLemmas.{byte_left}
use Rattle.wi_draw.proofs.dot.put_joined.Goals as goal

pub loop-byte-preserved : goal.loop-byte-preserved
loop-byte-preserved c = byte_left joined_byte _ _ 0 _ _ _ c.loop-byte-test.true c.loop-byte.invariant c.in_ok-put_joined_byte.ensures
