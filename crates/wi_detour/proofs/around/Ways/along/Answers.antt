use Rattle.std.proofs.Common.{rules}
use Rattle.wi_detour.proofs.around.Ways.along.Goals as goal

pub returns : goal.returns
returns c = search rules
