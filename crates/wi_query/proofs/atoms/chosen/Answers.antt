use Rattle.std.proofs.Common.{rules}
use Rattle.wi_query.proofs.atoms.chosen.Goals as goal

pub returns : goal.returns
returns c = search rules
