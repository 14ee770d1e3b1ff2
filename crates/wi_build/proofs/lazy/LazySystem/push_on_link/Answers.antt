use Rattle.std.proofs.Common.{arith}
use Rattle.std.proofs.lemmas.Grind.{common_steps}
use Rattle.wi_build.proofs.lazy.LazySystem.push_on_link.Goals as goal

pub returns-in_ok-push_ends : goal.returns-in_ok-push_ends
returns-in_ok-push_ends c = grind (arith, common_steps)
