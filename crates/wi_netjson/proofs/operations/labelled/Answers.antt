use Rattle.std.proofs.Common.{rules}
use Rattle.wi_netjson.proofs.operations.labelled.Goals as goal

pub returns-in-Some-class : goal.returns-in-Some-class
returns-in-Some-class c = search rules
