use Rattle.std.proofs.Common.{rules}
use Rattle.wi_trace.proofs.judge.verdict.Goals as goal

pub returns-then-count-bounds : goal.returns-then-count-bounds
returns-then-count-bounds c = search rules

pub returns-in-Some : goal.returns-in-Some
returns-in-Some c = search rules
