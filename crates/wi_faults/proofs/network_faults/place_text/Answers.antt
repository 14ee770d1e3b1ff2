use Rattle.std.proofs.Common.{arith}
use Rattle.std.proofs.lemmas.Grind.{common_steps}
use Rattle.wi_faults.proofs.network_faults.place_text.Goals as goal

pub returns-in_ok-put-in-LabelName : goal.returns-in_ok-put-in-LabelName
returns-in_ok-put-in-LabelName c = grind (arith, common_steps)
