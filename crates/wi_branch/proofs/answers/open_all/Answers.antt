use Rattle.std.proofs.Common.{◌≡◌, arith, sym, ap, ◌∙◌}
use Rattle.std.proofs.lemmas.Result.{err_from_is_err_and}
use Rattle.wi_branch.specs.private.Courses.{Opening}
use Rattle.wi_branch.proofs.WalkLaws.{opening_next, opening_of, stopped_kept, stopped_next, opened_more}
use Rattle.wi_branch.proofs.answers.open_all.Goals as goal

pub loop-branch-preserved : goal.loop-branch-preserved
loop-branch-preserved c = record {
  opening =
      opening_next c.args.problem.now c.keeps.ensures.problem.network c.keeps.ensures.problem.bounds_of c.args.limit c.next.new.self c.in-Some.branch
      (opening_of _ _ _ _ c.in-Some.ensures c.loop-branch.invariant.opening) (omega (arith, ap (λ (s : Opening). s.count) c.course.view_is, c.if-course-limit.false)) _ c.in_ok-open_branch.ensures.opened;
  keeps = (opened_more _ _ _ _ c.in_ok-open_branch.ensures.opened).1 ∙ sym (ap (λ (s : Opening). s.keeps) c.in-Some.ensures) ∙ c.loop-branch.invariant.keeps;
}

pub loop-branch-smaller : goal.loop-branch-smaller
loop-branch-smaller c =
    let more = (opened_more _ _ _ _ c.in_ok-open_branch.ensures.opened).0 in
    let same : c.loop-branch.course.count ≡ c.next.new.self.count = ap (λ (s : Opening). s.count) c.in-Some.ensures in
    omega (arith, more, same, ap (λ (s : Opening). s.count) c.course.view_is, c.if-course-limit.false)

pub returns-in_err-open_branch-clause-refused : goal.returns-in_err-open_branch-clause-refused
returns-in_err-open_branch-clause-refused c =
    let p = err_from_is_err_and c.from_residual.result c.from_residual.ensures.1 in
    let opening = opening_of _ _ _ _ c.in-Some.ensures c.loop-branch.invariant.opening in
    rw (p.1, p.2) (
      opening.opened,
      stopped_next c.args.problem.now c.keeps.ensures.problem.network c.keeps.ensures.problem.bounds_of c.args.limit c.next.new.self c.in-Some.branch opening (omega (arith, ap (λ (s : Opening). s.count) c.course.view_is, c.if-course-limit.false)) _ c.in_err-open_branch.ensures.refused,
    )

pub returns-in_err-open_branch-clause-nodes : goal.returns-in_err-open_branch-clause-nodes
returns-in_err-open_branch-clause-nodes c =
    let p = err_from_is_err_and c.from_residual.result c.from_residual.ensures.1 in
    let opening = opening_of _ _ _ _ c.in-Some.ensures c.loop-branch.invariant.opening in
    rw (p.1, p.2)
    (λ keep. stopped_kept c.args.problem.now c.keeps.ensures.problem.network c.keeps.ensures.problem.bounds_of c.args.limit c.next.new.self c.in-Some.branch opening (omega (arith, ap (λ (s : Opening). s.count) c.course.view_is, c.if-course-limit.false)) _ _
    c.in_err-open_branch.ensures.refused c.in_err-open_branch.ensures.stands (sym (ap (λ (s : Opening). s.keeps) c.in-Some.ensures) ∙ c.loop-branch.invariant.keeps ∙ keep))
