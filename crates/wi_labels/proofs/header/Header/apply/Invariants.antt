use Rattle.std.proofs.Common.{◌≡◌, ◌≤◌, drop, length}
use Rattle.wi_labels.specs.Header.{outcome}
use Rattle.wi_labels.specs.private.Rewrite.{rewritten}
use Rattle.wi_labels.proofs.header.Header.apply.Given as goal

abbrev pub invariant-loop-i : goal.invariant-loop-i
invariant-loop-i l = record {
  walk : outcome l.i (drop l.i l.ops) (rewritten l.self l.rewrite.gone l.rewrite.above.items) ≡ outcome 0 l.ops l.self;
  within : l.rewrite.gone ≤ length l.self;
}
