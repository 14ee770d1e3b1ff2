use Rattle.std.proofs.Common.{rules}
use Rattle.std.proofs.lemmas.Map.Keys.{IsDistinct-IsPermutation}
use Rattle.wi_reduce.specs.private.Worklists.{eq_by_parts}
use Rattle.wi_reduce.proofs.Lists.{by_parts_laws}
use Rattle.wi_reduce.proofs.worklist.Worklist.into_sorted.Goals as goal

pub returns-clause-distinct : goal.returns-clause-distinct
returns-clause-distinct g c =
    let A = g.A.PartialEq.eq in
    let B = g.B.PartialEq.eq in
    let laws = by_parts_laws A B g.met.A.Eq.laws g.met.B.Eq.laws in
    IsDistinct-IsPermutation (eq_by_parts A B) laws.symm c.self.inside.found.items _ (rw c.shrink_to_fit.ensures.items at c.sort_unstable.ensures.permutation) c.self.invariant.1

pub returns-clause-rise : goal.returns-clause-rise
returns-clause-rise g c = search rules
