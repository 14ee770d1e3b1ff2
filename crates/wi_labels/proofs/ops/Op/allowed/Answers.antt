use Rattle.std.proofs.Common.{rules}
use Rattle.wi_labels.proofs.ops.Op.allowed.Goals as goal

pub returns-in-Pop-Smpls : goal.returns-in-Pop-Smpls
returns-in-Pop-Smpls c = search rules
