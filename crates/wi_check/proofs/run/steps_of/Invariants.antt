use Rattle.std.proofs.Common.{◌≡◌, ◌++◌, drop}
use Rattle.wi_accept.specs.Answers.{steps_of}
use Rattle.wi_check.proofs.run.steps_of.Given as goal

abbrev pub invariant-loop-group : goal.invariant-loop-group
invariant-loop-group l = l.steps.items ++ steps_of (drop l.group-index l.numbers) ≡ steps_of l.numbers
