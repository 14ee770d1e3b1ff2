use Rattle.std.proofs.Common.{◌≡◌, ◌++◌, drop}
use Rattle.std.specs.List.{flat_map}
use Rattle.wi_draw.specs.Dot.{joined_byte}
use Rattle.wi_draw.proofs.dot.put_joined.Given as goal

abbrev pub invariant-loop-byte : goal.invariant-loop-byte
invariant-loop-byte l = l.line ++ flat_map joined_byte (drop l.byte-index l.bytes) ≡ l.initial.line ++ flat_map joined_byte l.bytes
