use Rattle.wi_branch.proofs.WalkLaws.{left_out}
use Rattle.wi_ask.proofs.exact.decided_exactly.Goals as goal

pub returns-in-Ok-clause-shown : goal.returns-in-Ok-clause-shown
returns-in-Ok-clause-shown c = record {
  problem_is = c.keeps.ensures.problem;
  exact = rw c.bounds.ensures at c.in-Ok.ensures.exact;
  accepted = rw c.bounds.ensures at c.in-Ok.ensures.accepted;
}

pub returns-in-Err-clause-refused : goal.returns-in-Err-clause-refused
returns-in-Err-clause-refused c =
    let left = left_out c.args.problem.now 10000 c.in-Err.refused c.from.ensures.0 c.from.result c.from.ensures.1 (rw c.bounds.ensures at c.in-Err.ensures.refused) in
    c.refusal_for.ensures c.args.problem.now left c.terms.ensures
