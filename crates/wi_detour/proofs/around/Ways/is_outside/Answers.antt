use Rattle.std.proofs.Common.{rules}
use Rattle.wi_detour.proofs.around.Ways.is_outside.Goals as goal

pub returns : goal.returns
returns c = search rules
