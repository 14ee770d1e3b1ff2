use Rattle.std.proofs.Common.{◌≡◌, ◌++◌, drop}
use Rattle.wi_faults.specs.Numbers.{numbers_shown}
use Rattle.wi_faults.proofs.numbers.put_numbers.Given as goal

abbrev pub invariant-loop-number : goal.invariant-loop-number
invariant-loop-number l = l.text ++ numbers_shown (drop l.number-index l.numbers) ≡ l.initial.text ++ numbers_shown l.numbers
