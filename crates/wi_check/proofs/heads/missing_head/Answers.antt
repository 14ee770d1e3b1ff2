use Rattle.std.proofs.Common.{sym, ◌∙◌, None, Some}
use Rattle.wi_check.proofs.Absent.{rises_kept}
use Rattle.wi_check.proofs.Followed.{followed_heads}
use Rattle.wi_check.proofs.heads.missing_head.Goals as goal

pub first_absent-requires-clause-listed : goal.first_absent-requires-clause-listed
first_absent-requires-clause-listed c = rises_kept _ _ _ c.heads_of.ensures c.requires.heads

pub returns-in_err-lower : goal.returns-in_err-lower
returns-in_err-lower c = c.from_residual.ensures ∙ followed_heads _ c.args.listed.pairs.now _ _ _ None c.heads_of.ensures (sym c.in_err-lower.was ∙ c.first_absent.ensures)

pub returns : goal.returns
returns c = followed_heads _ c.args.listed.pairs.now _ _ _ (Some c.in_ok-lower.lower) c.heads_of.ensures (sym c.in_ok-lower.was ∙ c.first_absent.ensures)
