use Rattle.std.proofs.Common.{rules}
use Rattle.wi_protect.proofs.rows.onto.Goals as goal

pub returns : goal.returns
returns c = search rules
