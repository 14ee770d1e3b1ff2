use Rattle.std.proofs.Common.{inr}
use Rattle.wi_policy.proofs.read.add_line.Goals as goal

pub returns-in_ok-add-in-Some-clause-added : goal.returns-in_ok-add-in-Some-clause-added
returns-in_ok-add-in-Some-clause-added c = inr (c.in-Some.policy, (rw c.in-Some.is at c.in_ok-read_line.ensures), c.in_ok-add-in-Some.ensures)
