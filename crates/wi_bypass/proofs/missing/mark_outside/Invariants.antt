use Rattle.std.proofs.Common.{◌≡◌, drop, length}
use Rattle.wi_bypass.specs.private.Marks.{marked_outside}
use Rattle.wi_bypass.proofs.missing.mark_outside.Given as goal

abbrev pub invariant-loop-bypass : goal.invariant-loop-bypass
invariant-loop-bypass l = record {
  marks : marked_outside l.net l.marks.items (drop l.bypass-index l.bypasses) ≡ marked_outside l.net l.fn.marks.items l.bypasses;
  count : length l.marks.items ≡ length l.fn.marks.items;
}
