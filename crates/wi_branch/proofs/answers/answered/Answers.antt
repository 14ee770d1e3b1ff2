use Rattle.std.proofs.Common.{false, ap}
use Rattle.wi_decide.proofs.MakerLemmas.{few_terms}
use Rattle.wi_branch.specs.private.Courses.{Opening}
use Rattle.wi_branch.proofs.ExactLaws.{answered_is}
use Rattle.wi_branch.proofs.WalkLaws.{opening_first}
use Rattle.wi_branch.proofs.answers.answered.Goals as goal

pub open_all-requires : goal.open_all-requires
open_all-requires c = rw (c.in_ok-course.ensures, c.in_ok-twin.ensures, c.bounds.ensures) (opening_first c.args.problem.now c.keeps.ensures.problem.network c.keeps.ensures.problem.bounds_of c.args.limit false)

pub returns-clause-answered : goal.returns-clause-answered
returns-clause-answered c =
    answered_is c.args.problem.now c.keeps.ensures.problem c.args.limit _ c.in_ok-open_all.ensures.done
    (few_terms c.args.problem.now.vector c.keeps.ensures.vector) c.requires
    _ (ap (λ (s : Opening). s.best) c.course.view_is) _ (ap (λ (s : Opening). s.count) c.course.view_is) c.in_ok-answer.answer c.in_ok-answer.ensures
