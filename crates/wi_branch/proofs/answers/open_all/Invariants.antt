use Rattle.std.proofs.Common.{◌≡◌, ◌-◌}
use Rattle.wi_branch.specs.private.Courses.{IsOpening}
use Rattle.wi_branch.proofs.answers.open_all.Given as goal

abbrev pub invariant-loop-branch : goal.invariant-loop-branch
invariant-loop-branch l = record {
  opening : IsOpening l.problem l.limit l.course;
  keeps : l.course.keeps ≡ l.fn.course.keeps;
}

abbrev pub decreases-loop-branch : goal.decreases-loop-branch
decreases-loop-branch l = l.limit - l.course.count
