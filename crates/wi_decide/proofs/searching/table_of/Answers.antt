use Rattle.std.proofs.Common.{rules}
use Rattle.wi_decide.proofs.RuleLemmas.{ready}
use Rattle.wi_decide.proofs.searching.table_of.Goals as goal

pub least-requires-clause-ready : goal.least-requires-clause-ready
least-requires-clause-ready c = ready c.args.system.now c.args.heads.now.heads c.keeps.ensures.problem c.keeps.ensures.vector

pub returns-in-Ok-clause-table : goal.returns-in-Ok-clause-table
returns-in-Ok-clause-table c = search rules
