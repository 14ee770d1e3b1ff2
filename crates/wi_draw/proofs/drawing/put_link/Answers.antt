use Rattle.wi_draw.proofs.DrawingLemmas.{link_pieces}
use Rattle.wi_draw.proofs.drawing.put_link.Goals as goal

pub returns : goal.returns
returns c =
    link_pieces _ c.args.net.now c.args.link c.args.label.now c.args.failed _ _ _ _ _ _ _ _ _ _ _ _ _ _ c.link-ends.ensures.value c.router_name.ensures c.router_name-2.ensures c.as_bytes.ensures.value c.as_bytes-2.ensures.value
    c.in_ok-put.ensures c.in_ok-put_string.ensures c.in_ok-put-2.ensures c.in_ok-put_string-2.ensures c.in_ok-put-3.ensures c.in_ok-put_name.ensures c.in_ok-put_stroke.ensures c.put-4.ensures
