-- One link more.
use Rattle.std.proofs.Common.{refl, ◌∙◌}
use Rattle.wi_query.proofs.Marks.{marks_pushed}
use Rattle.wi_query.proofs.atoms.links_among.Goals as goal

pub loop-x-preserved : goal.loop-x-preserved
loop-x-preserved c = marks_pushed _ _ _ _ _ c.loop-x.invariant c.in_ok-push.ensures.items (c.chosen.ensures ∙ rw c.any_between.ensures refl)
