use Rattle.std.proofs.Common.{arith}
use Rattle.wi_net.proofs.MemberLemmas.{before_most}
use Rattle.wi_net.proofs.network.Network.first_member.Goals as goal

pub overflow_cast-result : goal.overflow_cast-result
overflow_cast-result c = omega (arith, c.members_before.ensures, before_most c.self.inside.tables c.args.link c.args.top, c.self.invariant.network.few_members)
