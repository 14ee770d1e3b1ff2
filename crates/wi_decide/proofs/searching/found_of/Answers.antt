use Rattle.std.proofs.Common.{◌≡◌, Some, sym, ◌∙◌}
use Rattle.std.proofs.lemmas.Option.{MatchOption-at_some}
use Rattle.std.proofs.lemmas.Result.{err_from_is_err_and}
use Rattle.wi_decide.proofs.AnswerLemmas.{is_least, is_short, none_below, not_shown}
use Rattle.wi_decide.proofs.searching.found_of.Goals as goal

pub returns-in_default-clause-found : goal.returns-in_default-clause-found
returns-in_default-clause-found c cut has = none_below c.args.system.now c.keeps.ensures.problem cut c.args.table.now has (sym c.best.ensures ∙ c.in_default.is)

pub returns-in_err-run-clause-refused : goal.returns-in_err-run-clause-refused
returns-in_err-run-clause-refused c =
    let some : c.args.table.now.best ≡ Some c.in-Some.weight = sym c.best.ensures ∙ c.in-Some.is in
    let p = err_from_is_err_and c.from_residual.result c.from_residual.ensures.1 in
    rw (p.1, p.2)
    (λ cut has.
    (not_shown c.args.system.now c.keeps.ensures.problem cut c.args.table.now has c.in-Some.weight some c.in_err-run.field-0.0
    (MatchOption-at_some _ _ c.in-Some.weight some c.in_err-run.ensures.refused)))

pub returns-clause-found : goal.returns-clause-found
returns-clause-found c cut has =
    let some : c.args.table.now.best ≡ Some c.in-Some.weight = sym c.best.ensures ∙ c.in-Some.is in
    let answers = MatchOption-at_some _ _ c.in-Some.weight some c.in_ok-run.ensures.run in (
      is_least c.args.system.now c.keeps.ensures.problem cut c.args.table.now has c.in-Some.weight some c.in_ok-run.run' answers,
      is_short c.args.system.now c.keeps.ensures.problem cut c.args.table.now has c.in-Some.weight some c.in_ok-run.run' answers (MatchOption-at_some _ _ c.in-Some.weight some c.in_ok-run.ensures.short),
    )
