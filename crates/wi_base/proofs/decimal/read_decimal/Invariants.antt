use Rattle.std.proofs.Common.{◌≡◌, None, drop}
use Rattle.wi_base.specs.private.Decimal.{number_in}
use Rattle.wi_base.proofs.decimal.read_decimal.Given as goal

abbrev pub invariant-loop-byte : goal.invariant-loop-byte
invariant-loop-byte l = number_in l.number (drop l.byte-index l.text) ≡ number_in None l.text
