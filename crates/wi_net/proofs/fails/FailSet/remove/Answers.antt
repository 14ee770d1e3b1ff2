use Rattle.std.proofs.Common.{rules}
use Rattle.wi_net.proofs.RisingLemmas.{rising_laws}
use Rattle.wi_net.proofs.fails.FailSet.remove.Goals as goal

pub returns-clause-rest : goal.returns-clause-rest
returns-clause-rest c = search (rules, rising_laws)
