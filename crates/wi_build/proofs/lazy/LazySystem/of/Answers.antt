use Rattle.wi_build.proofs.lazy.LazySystem.of.Goals as goal

pub invariant_of-result : goal.invariant_of-result
invariant_of-result c = (rw (c.net.ensures, c.query.ensures) at (c.of.ensures c.args.problem.now.vector c.args.problem.now.bounds), c.in_ok-first_links.ensures)
