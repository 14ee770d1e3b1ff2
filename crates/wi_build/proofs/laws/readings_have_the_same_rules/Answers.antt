use Rattle.wi_build.proofs.SameRules.{one_system}
use Rattle.wi_build.proofs.laws.readings_have_the_same_rules.Goals as goal

pub returns : goal.returns
returns c = one_system
