use Rattle.std.proofs.Common.{◌≡◌, ◌++◌, drop, length}
use Rattle.wi_bypass.specs.private.Marks.{no_marks, once_by}
use Rattle.wi_bypass.proofs.inner.once.Given as goal

abbrev pub invariant-loop-link : goal.invariant-loop-link
invariant-loop-link l = record {
  once : l.left.items ++ once_by l.marks.items (drop l.link-index l.links) ≡ once_by (no_marks l.count) l.links;
  count : length l.marks.items ≡ l.count;
}
