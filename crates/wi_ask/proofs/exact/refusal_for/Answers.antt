use Rattle.std.proofs.Common.{rules}
use Rattle.wi_ask.proofs.exact.refusal_for.Goals as goal

pub returns-in-NodeLimit : goal.returns-in-NodeLimit
returns-in-NodeLimit c = search rules
