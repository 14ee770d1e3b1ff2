use Rattle.std.proofs.Common.{◌≡◌, ◌++◌, drop}
use Rattle.wi_accept.specs.Answers.{labels_of}
use Rattle.wi_check.proofs.run.labels_of.Given as goal

abbrev pub invariant-loop-number : goal.invariant-loop-number
invariant-loop-number l = l.labels.items ++ labels_of l.net (drop l.number-index l.numbers) ≡ labels_of l.net l.numbers
