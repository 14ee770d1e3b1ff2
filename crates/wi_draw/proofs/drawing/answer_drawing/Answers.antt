use Rattle.wi_draw.proofs.DrawingLemmas.{same_drawn}
use Rattle.wi_draw.proofs.drawing.answer_drawing.Goals as goal

pub returns : goal.returns
returns c = same_drawn c.drawing.result _ _ _ _ c.net.ensures c.in_ok-marks.ensures c.drawing.ensures
