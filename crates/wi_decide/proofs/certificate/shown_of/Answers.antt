use Rattle.std.proofs.Common.{rules}
use Rattle.wi_decide.proofs.certificate.shown_of.Goals as goal

pub returns : goal.returns
returns c = search rules
