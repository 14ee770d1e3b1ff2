use Rattle.wi_script.proofs.Fronts.{until_is}
use Rattle.wi_script.proofs.line.until.Goals as goal

pub returns : goal.returns
returns c = until_is _ _ _ c.split_once.ensures.cases c.requires
