use Rattle.std.proofs.Common.{rules}
use Rattle.wi_net.proofs.RisingLemmas.{rising_laws}
use Rattle.wi_net.proofs.fails.FailSet.insert.Goals as goal

pub returns-clause-answer : goal.returns-clause-answer
returns-clause-answer c = search (rules, rising_laws)
