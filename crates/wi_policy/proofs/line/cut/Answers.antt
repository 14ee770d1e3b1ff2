use Rattle.wi_policy.proofs.LineLemmas.{cut_none, cut_some}
use Rattle.wi_policy.proofs.line.cut.Goals as goal

pub returns-in_err-find : goal.returns-in_err-find
returns-in_err-find c = rw c.from_residual.ensures (cut_none c.args.text.now c.in_err-find.ensures.cases)

pub returns : goal.returns
returns c = cut_some _ _ _ _ c.in_ok-find.ensures.cases c.split_at.ensures.front c.split_at.ensures.back
