use Rattle.wi_text.proofs.LineLemmas.{cut_none, cut_some}
use Rattle.wi_text.proofs.lines.next_line.Goals as goal

pub returns-in_err-end : goal.returns-in_err-end
returns-in_err-end c = rw c.from_residual.ensures (cut_none c.args.bytes.now c.in_err-end.ensures)

pub returns : goal.returns
returns c = cut_some _ _ c.in_ok-end.ensures
