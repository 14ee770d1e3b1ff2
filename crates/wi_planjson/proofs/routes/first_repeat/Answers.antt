use Rattle.std.proofs.Common.{rules}
use Rattle.wi_planjson.proofs.routes.first_repeat.Goals as goal

pub returns : goal.returns
returns c = search rules
