use Rattle.std.proofs.Common.{rules}
use Rattle.wi_ask.proofs.decided.decided.Goals as goal

pub returns-in-Err-Overflow-clause-refused : goal.returns-in-Err-Overflow-clause-refused
returns-in-Err-Overflow-clause-refused c = search rules
