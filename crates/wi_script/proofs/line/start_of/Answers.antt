use Rattle.std.proofs.Common.{arith}
use Rattle.std.proofs.lemmas.Grind.{common_steps}
use Rattle.wi_script.specs.private.Reading.{start_in}
use Rattle.wi_script.proofs.line.start_of.Goals as goal

pub returns : goal.returns
unfolding start_in
returns c = grind (arith, common_steps)
