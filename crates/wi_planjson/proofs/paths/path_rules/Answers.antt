use Rattle.std.proofs.Common.{rules}
use Rattle.wi_planjson.specs.Paths.{path_rules}
use Rattle.wi_planjson.proofs.paths.path_rules.Goals as goal

pub returns-in-Some-clause-answer : goal.returns-in-Some-clause-answer
unfolding path_rules
returns-in-Some-clause-answer c = search rules
