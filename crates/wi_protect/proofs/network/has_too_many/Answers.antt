use Rattle.std.proofs.Common.{rules}
use Rattle.wi_protect.proofs.network.has_too_many.Goals as goal

pub returns : goal.returns
returns c = search rules
