use Rattle.std.proofs.Common.{rules}
use Rattle.wi_net.specs.Builder.{link_ends}
use Rattle.wi_net.proofs.builder.NetworkBuilder.link_ends.Goals as goal

pub returns-then-is_some-2-clause-answer : goal.returns-then-is_some-2-clause-answer
unfolding link_ends
returns-then-is_some-2-clause-answer c = search rules
