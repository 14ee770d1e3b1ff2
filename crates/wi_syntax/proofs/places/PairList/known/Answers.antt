use Rattle.std.proofs.Common.{rules}
use Rattle.wi_syntax.proofs.places.PairList.known.Goals as goal

pub returns : goal.returns
returns c = search rules
