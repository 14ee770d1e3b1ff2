use Rattle.std.proofs.Common.{subst}
use Rattle.wi_net.specs.Net.{Net}
use Rattle.wi_net.specs.Network.{HasEnds}
use Rattle.wi_net.proofs.EndLemmas.{has_ends}
use Rattle.wi_net.proofs.network.Network.link.Goals as goal

pub returns-clause-ends : goal.returns-clause-ends
returns-clause-ends c =
    let P : Net → Type 0 = λ net. HasEnds net c.get.result.now in
    subst P c.self.view_is (has_ends _ c.args.link.0 c.get.result.now c.self.invariant.network c.get.ensures)
