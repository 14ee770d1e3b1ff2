use Rattle.std.proofs.Common.{rules}
use Rattle.wi_script.proofs.meaning.link.Goals as goal

pub returns-in_err-into : goal.returns-in_err-into
returns-in_err-into c = search rules
