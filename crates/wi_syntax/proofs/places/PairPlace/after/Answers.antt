use Rattle.std.proofs.Common.{rules}
use Rattle.wi_syntax.proofs.places.PairPlace.after.Goals as goal

pub returns-in-FromInterfaceDue-Word : goal.returns-in-FromInterfaceDue-Word
returns-in-FromInterfaceDue-Word c = search rules
