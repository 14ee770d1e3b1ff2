use Rattle.wi_build.proofs.FitLemmas.{fit}
use Rattle.wi_build.proofs.laws.weights_fit.Goals as goal

pub returns : goal.returns
returns c = fit
