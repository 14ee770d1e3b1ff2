use Rattle.wi_draw.specs.Drawings.{no_picture}
use Rattle.wi_draw.proofs.drawing.network_drawing.Goals as goal

pub returns : goal.returns
returns c = c.drawing.ensures no_picture (c.no_marks-marks.ensures c.args.net.now)
