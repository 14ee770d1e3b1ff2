use Rattle.wi_draw.proofs.DrawingLemmas.{router_pieces}
use Rattle.wi_draw.proofs.drawing.put_router.Goals as goal

pub returns : goal.returns
returns c =
    router_pieces _ c.args.net.now c.args.dropped.now c.args.router _ _ _ _ _ _ _ c.router_name-name.ensures c.as_bytes.ensures.value c.in_ok-put.ensures c.in_ok-put_string.ensures c.in_ok-put_dropped.ensures c.put-2.ensures
