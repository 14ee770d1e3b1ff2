use Rattle.wi_build.proofs.LawLemmas.{systems}
use Rattle.wi_build.proofs.laws.systems_have_the_rules.Goals as goal

pub returns : goal.returns
returns c = systems
