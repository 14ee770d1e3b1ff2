use Rattle.wi_draw.proofs.DrawingLemmas.{drop_pieces}
use Rattle.wi_draw.proofs.drawing.put_drop.Goals as goal

pub returns : goal.returns
returns c =
    drop_pieces _ c.args.name.now c.args.words.now _ _ _ _ _ _ _ _ c.as_bytes.ensures.value c.as_bytes-2.ensures c.in_ok-put.ensures c.in_ok-put_escaped.ensures c.in_ok-put-2.ensures c.in_ok-put_escaped-2.ensures c.put-3.ensures
