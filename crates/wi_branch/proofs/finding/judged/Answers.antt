use Rattle.wi_branch.proofs.WalkLaws.{told_is_some, told_link}
use Rattle.wi_branch.proofs.finding.judged.Goals as goal

pub unwrap-requires : goal.unwrap-requires
unwrap-requires c =
    told_is_some _ _ _ _ _ _ _ c.keeps.ensures.problem.network c.keeps.ensures.problem.bounds_of c.requires.run (rw (c.net-net.ensures, c.bounds-branch.ensures) at c.in_ok-verdict.ensures) c.is_fitting.ensures c.if-is_fitting.false
    (rw (c.net-net.ensures, c.bounds-branch.ensures) at c.in_ok-needs.ensures) (rw c.bounds-branch.ensures at c.first_free.ensures)

pub returns-clause-judged : goal.returns-clause-judged
returns-clause-judged c =
    told_link _ _ _ _ _ _ _ _ c.keeps.ensures.problem.network c.keeps.ensures.problem.bounds_of c.requires.run (rw (c.net-net.ensures, c.bounds-branch.ensures) at c.in_ok-verdict.ensures) c.is_fitting.ensures c.if-is_fitting.false
    (rw (c.net-net.ensures, c.bounds-branch.ensures) at c.in_ok-needs.ensures) (rw c.bounds-branch.ensures at c.first_free.ensures) c.unwrap.ensures
