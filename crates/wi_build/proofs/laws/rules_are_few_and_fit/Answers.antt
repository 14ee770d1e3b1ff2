use Rattle.wi_build.proofs.Few.{few}
use Rattle.wi_build.proofs.Fit.{fits}
use Rattle.wi_build.proofs.laws.rules_are_few_and_fit.Goals as goal

pub returns : goal.returns
returns c = record { few = few; fit = fits }
