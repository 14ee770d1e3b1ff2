use Rattle.std.proofs.Common.{◌≡◌, ◌++◌, drop, true}
use Rattle.wi_audit.specs.Texts.{commented}
use Rattle.wi_audit.proofs.text.put_commented.Given as goal

abbrev pub invariant-loop-byte : goal.invariant-loop-byte
invariant-loop-byte l = l.to.items ++ commented l.begins (drop l.byte-index l.bytes) ≡ l.initial.to.items ++ commented true l.bytes
