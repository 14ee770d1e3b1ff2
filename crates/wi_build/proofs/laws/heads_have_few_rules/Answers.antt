use Rattle.wi_build.proofs.FitLemmas.{few}
use Rattle.wi_build.proofs.laws.heads_have_few_rules.Goals as goal

pub returns : goal.returns
returns c = few
