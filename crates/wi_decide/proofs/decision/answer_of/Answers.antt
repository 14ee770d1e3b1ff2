use Rattle.std.proofs.Common.{rules}
use Rattle.wi_decide.proofs.FoundLemmas.{is_no}
use Rattle.wi_decide.proofs.decision.answer_of.Goals as goal

pub returns-in_default-clause-decided : goal.returns-in_default-clause-decided
returns-in_default-clause-decided c = is_no c.args.problem.now c.args.found c.keeps.ensures.problem.network c.keeps.ensures.problem.bounds_of c.in_default.is c.requires

pub returns-clause-weight : goal.returns-clause-weight
returns-clause-weight c = search rules
