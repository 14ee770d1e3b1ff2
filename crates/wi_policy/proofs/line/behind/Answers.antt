use Rattle.std.proofs.Common.{sym, ◌∙◌}
use Rattle.wi_policy.proofs.LineLemmas.{behind_none, behind_some}
use Rattle.wi_policy.proofs.line.behind.Goals as goal

pub returns-in_err-rest : goal.returns-in_err-rest
returns-in_err-rest c = rw c.from_residual.ensures (behind_none c.args.word.now c.args.text.now c.in_err-rest.ensures.cases)

pub returns-else-begins_plain : goal.returns-else-begins_plain
returns-else-begins_plain c = behind_some _ _ c.in_ok-rest.rest _ c.in_ok-rest.ensures.cases (sym c.if-begins_plain.false ∙ c.begins_plain.ensures)
