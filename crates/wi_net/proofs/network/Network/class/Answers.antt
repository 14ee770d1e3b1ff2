use Rattle.std.proofs.Common.{arith}
use Rattle.std.proofs.lemmas.Grind.{elements}
use Rattle.wi_net.proofs.network.Network.class.Goals as goal

pub returns : goal.returns
returns c = grind (arith, elements)
