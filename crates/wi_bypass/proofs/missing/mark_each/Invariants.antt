use Rattle.std.proofs.Common.{◌≡◌, drop, length}
use Rattle.wi_bypass.specs.private.Marks.{marked_each}
use Rattle.wi_bypass.proofs.missing.mark_each.Given as goal

abbrev pub invariant-loop-bypass : goal.invariant-loop-bypass
invariant-loop-bypass l = record {
  marks : marked_each l.marks.items (drop l.bypass-index l.bypasses) ≡ marked_each l.fn.marks.items l.bypasses;
  count : length l.marks.items ≡ length l.fn.marks.items;
}
