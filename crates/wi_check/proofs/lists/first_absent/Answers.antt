use Rattle.std.proofs.Common.{arith, ◌∙◌, refl}
use Rattle.std.proofs.lemmas.Grind.{common_steps}
use Rattle.wi_check.proofs.Absent.{walk_below, walk_same, walk_past, left_rises, after_rises}
use Rattle.wi_check.proofs.lists.first_absent.Goals as goal

pub loop-first-init : goal.loop-first-init
loop-first-init g c = record { same = refl; left = c.requires.wanted; after = c.requires.listed }

pub loop-first-preserved-in-Less : goal.loop-first-preserved-in-Less
loop-first-preserved-in-Less g c = record {
  same = walk_below _ _ _ _ _ _ c.in-Some.ensures.cases.0 c.in-Some-split_first.ensures.cases.0 c.in-Less.ensures c.loop-first.invariant.left ∙ c.loop-first.invariant.same;
  left = c.loop-first.invariant.left;
  after = after_rises _ _ _ _ _ _ c.in-Some.ensures.cases.0 c.in-Some-split_first.ensures.cases.0 c.loop-first.invariant.after;
}

pub loop-first-preserved : goal.loop-first-preserved
loop-first-preserved g c = record {
  same = walk_same _ _ _ _ _ _ c.in-Some.ensures.cases.0 c.in-Some-split_first.ensures.cases.0 c.in-Equal.ensures c.loop-first.invariant.left ∙ c.loop-first.invariant.same;
  left = left_rises _ _ _ _ _ _ c.in-Some.ensures.cases.0 c.in-Some-split_first.ensures.cases.0 c.loop-first.invariant.left;
  after = after_rises _ _ _ _ _ _ c.in-Some.ensures.cases.0 c.in-Some-split_first.ensures.cases.0 c.loop-first.invariant.after;
}

pub returns-in-Greater : goal.returns-in-Greater
returns-in-Greater g c = walk_past _ _ _ _ _ _ c.in-Some.ensures.cases.0 c.in-Some-split_first.ensures.cases.0 c.in-Greater.ensures c.loop-first.invariant.after ∙ c.loop-first.invariant.same

pub returns-in_default-split_first : goal.returns-in_default-split_first
returns-in_default-split_first g c = grind (arith, common_steps)
