use Rattle.std.proofs.Common.{rules}
use Rattle.wi_script.proofs.meaning.label.Goals as goal

pub returns : goal.returns
returns c = search rules
