use Rattle.std.proofs.Common.{◌≡◌, ◌++◌, drop, map}
use Rattle.wi_audit.specs.Texts.{safe_byte}
use Rattle.wi_audit.proofs.text.put_safe.Given as goal

abbrev pub invariant-loop-byte : goal.invariant-loop-byte
invariant-loop-byte l = l.to.items ++ map safe_byte (drop l.byte-index l.name) ≡ l.initial.to.items ++ map safe_byte l.name
