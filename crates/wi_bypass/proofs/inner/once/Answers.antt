use Rattle.std.proofs.Common.{◌∙◌, ◌++◌, ap, length}
use Rattle.wi_bypass.specs.private.Marks.{once_by}
use Rattle.wi_bypass.proofs.MarkLemmas.{no_marks_length}
use Rattle.wi_bypass.proofs.inner.once.Goals as goal

pub loop-link-init : goal.loop-link-init
loop-link-init c = record {
  once = ap (λ xs. xs ++ once_by c.in_ok-marks.marks.items c.args.links.now) c.new-left.ensures.items ∙ ap (λ m. once_by m c.args.links.now) c.in_ok-marks.ensures;
  count = ap length c.in_ok-marks.ensures ∙ no_marks_length c.args.count;
}
