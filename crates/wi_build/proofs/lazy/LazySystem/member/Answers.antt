use Rattle.wi_build.proofs.HopLemmas.{ops_kept}
use Rattle.wi_build.proofs.lazy.LazySystem.member.Goals as goal

pub returns-clause-ops : goal.returns-clause-ops
returns-clause-ops c = rw c.network-net.ensures at (ops_kept _ _ _ c.keeps.ensures c.member.ensures)
