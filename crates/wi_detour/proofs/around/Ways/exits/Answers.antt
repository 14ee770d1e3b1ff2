use Rattle.std.proofs.Common.{rules}
use Rattle.wi_detour.proofs.around.Ways.exits.Goals as goal

pub returns-then-state-eq-START : goal.returns-then-state-eq-START
returns-then-state-eq-START c = search rules
