use Rattle.wi_script.proofs.Fronts.{past_is}
use Rattle.wi_script.proofs.line.past.Goals as goal

pub returns : goal.returns
returns c = past_is _ _ _ c.strip_prefix.ensures.cases
