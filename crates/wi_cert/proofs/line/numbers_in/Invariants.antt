use Rattle.std.proofs.Common.{◌≡◌, drop}
use Rattle.wi_cert.specs.Numbers.{scan, numbers_in}
use Rattle.wi_cert.proofs.line.numbers_in.Given as goal

abbrev pub invariant-loop-byte : goal.invariant-loop-byte
invariant-loop-byte l = scan l.numbers.items l.word (drop l.byte-index l.line) ≡ numbers_in l.line
