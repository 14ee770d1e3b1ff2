use Rattle.std.proofs.Common.{rules}
use Rattle.wi_detour.proofs.around.Ways.push_ending.Goals as goal

pub returns-in_ok-push : goal.returns-in_ok-push
returns-in_ok-push c = search rules
