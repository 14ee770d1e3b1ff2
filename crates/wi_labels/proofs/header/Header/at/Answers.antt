use Rattle.std.proofs.Common.{arith}
use Rattle.std.proofs.lemmas.Grind.{elements}
use Rattle.wi_labels.proofs.header.Header.at.Goals as goal

pub returns-then-i-count : goal.returns-then-i-count
returns-then-i-count c = grind (arith, elements)
