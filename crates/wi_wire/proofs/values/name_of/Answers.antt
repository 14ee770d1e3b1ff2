use Rattle.std.proofs.Common.{rules}
use Rattle.wi_wire.proofs.values.name_of.Goals as goal

pub returns-in_ok-format-in-Smpls : goal.returns-in_ok-format-in-Smpls
returns-in_ok-format-in-Smpls c = search rules
