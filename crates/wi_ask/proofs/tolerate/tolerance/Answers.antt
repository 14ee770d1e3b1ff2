use Rattle.std.proofs.Common.{rules}
use Rattle.wi_build.specs.Problems.{Problem, allowing}
use Rattle.wi_branch.proofs.WalkLaws.{left_out}
use Rattle.wi_ask.proofs.tolerate.tolerance.Goals as goal

pub returns-in-Ok-clause-found : goal.returns-in-Ok-clause-found
returns-in-Ok-clause-found c = search rules

pub returns-in-Err-Exact-clause-refused : goal.returns-in-Err-Exact-clause-refused
returns-in-Err-Exact-clause-refused c =
    let stopped = rw c.in-Err-Exact.field-0-is at c.in-Err-Exact.ensures.refused in
    let asked : Problem = allowing c.args.problem.now c.in-Err-Exact.field-0-0 in
    let left = left_out asked 10000 c.in-Err-Exact.refused c.from.ensures.0 c.from.result c.from.ensures.1 stopped.3 in
    (c.in-Err-Exact.field-0-0, stopped.0, stopped.1, c.refusal_for.ensures asked left c.terms.ensures)
