use Rattle.std.proofs.Common.{true, ap, ◌∙◌}
use Rattle.wi_decide.proofs.MakerLemmas.{few_terms}
use Rattle.wi_branch.specs.private.Courses.{Opening}
use Rattle.wi_branch.proofs.WalkLaws.{opening_first}
use Rattle.wi_branch.proofs.ExactLaws.{best_shown, exact_accepted, exact_is}
use Rattle.wi_branch.proofs.answers.exactly.Goals as goal

pub open_all-requires : goal.open_all-requires
open_all-requires c = rw (c.in_ok-course.ensures, c.in_ok-twin.ensures, c.bounds.ensures) (opening_first c.args.problem.now c.keeps.ensures.problem.network c.keeps.ensures.problem.bounds_of c.args.limit true)

pub shown_with-requires : goal.shown_with-requires
shown_with-requires c = best_shown c.args.problem.now c.keeps.ensures.problem c.args.limit _ c.in-Ok.ensures.done

pub returns-in_ok-shown_with-in-Ok-clause-exact : goal.returns-in_ok-shown_with-in-Ok-clause-exact
returns-in_ok-shown_with-in-Ok-clause-exact c =
    exact_is c.args.problem.now c.keeps.ensures.problem c.args.limit _ c.in-Ok.ensures.done (few_terms c.args.problem.now.vector c.keeps.ensures.vector) c.requires
    (c.in-Ok.ensures.keeps ∙ ap (λ (s : Opening). s.keeps) c.in_ok-course.ensures) _ c.in_ok-shown_with-in-Ok.ensures.answer _ c.in_ok-shown_with-in-Ok.ensures.shown c.in_ok-shown_with-in-Ok.ensures.nodes

pub returns-in_ok-shown_with-in-Ok-clause-accepted : goal.returns-in_ok-shown_with-in-Ok-clause-accepted
returns-in_ok-shown_with-in-Ok-clause-accepted c = exact_accepted c.args.problem.now c.keeps.ensures.problem c.args.limit _ _ (returns-in_ok-shown_with-in-Ok-clause-exact c)
