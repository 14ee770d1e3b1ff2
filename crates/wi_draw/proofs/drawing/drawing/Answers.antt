use Rattle.wi_draw.proofs.DrawingLemmas.{drawing_pieces}
use Rattle.wi_draw.proofs.drawing.drawing.Goals as goal

pub returns : goal.returns
returns c = λ p are.
    drawing_pieces c.args.net.now p _ _ _ _ _ _ _ _ c.new-text.ensures c.in_ok-put.ensures c.in_ok-put_heading_line.ensures c.in_ok-put_routers.ensures (c.in_ok-put_links.ensures p are) c.in_ok-put-2.ensures are.heading are.dropped
