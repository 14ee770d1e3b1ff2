use Rattle.std.proofs.Common.{rules}
use Rattle.wi_script.proofs.meaning.event.Goals as goal

pub returns-in_ok-link-in-Repair : goal.returns-in_ok-link-in-Repair
returns-in_ok-link-in-Repair c = search rules
