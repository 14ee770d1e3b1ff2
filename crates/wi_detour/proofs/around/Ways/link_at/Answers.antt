use Rattle.std.proofs.Common.{rules}
use Rattle.wi_detour.proofs.around.Ways.link_at.Goals as goal

pub loop-link-init : goal.loop-link-init
loop-link-init c = search rules
