use Rattle.wi_quantity.proofs.MeaningLemmas.{value_is}
use Rattle.wi_quantity.proofs.read.value_of.Goals as goal

pub returns : goal.returns
returns c = value_is c.args.number.now _ _ c.requires c.parse.ensures.value.0 c.ok.ensures.value
