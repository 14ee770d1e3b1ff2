use Rattle.std.proofs.Common.{◌≡◌, ◌++◌, drop}
use Rattle.std.specs.List.{flat_map}
use Rattle.wi_draw.specs.Dot.{escaped_byte}
use Rattle.wi_draw.proofs.dot.put_escaped.Given as goal

abbrev pub invariant-loop-byte : goal.invariant-loop-byte
invariant-loop-byte l = l.text ++ flat_map escaped_byte (drop l.byte-index l.bytes) ≡ l.initial.text ++ flat_map escaped_byte l.bytes
