use Rattle.std.proofs.Common.{◌≡◌, ◌++◌, drop}
use Rattle.wi_cert.specs.Numbers.{spaced}
use Rattle.wi_cert.proofs.writer.put_spaced_short.Given as goal

abbrev pub invariant-loop-number : goal.invariant-loop-number
invariant-loop-number l = l.out.items ++ spaced (drop l.number-index l.numbers) ≡ l.initial.out.items ++ spaced l.numbers
