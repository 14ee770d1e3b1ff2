use Rattle.std.proofs.Common.{Ok, ap, ◌∙◌, arith}
use Rattle.wi_world.proofs.Known.{moved_known}
use Rattle.wi_draw.proofs.DrawingLemmas.{next_place, place_left}
use Rattle.wi_draw.proofs.marks.mark_places.Goals as goal

pub loop-i-preserved : goal.loop-i-preserved
loop-i-preserved c =
    let led = c.in_ok-follow.ensures.on (ap Ok c.if-not-branch.false) in
    let known = moved_known _ _ _ _ _ c.keeps.ensures c.loop-i.invariant.header led in
    record {
      within = omega (arith, c.loop-i-test.true);
      link = known.0;
      header = known.1;
      count = c.in_ok-mark_place.ensures.count ∙ c.loop-i.invariant.count;
      label = λ n. c.loop-i.invariant.label n ∙ place_left c.args.net.now c.loop-i.at c.follow.new.at c.args.steps.now c.loop-i.i _ _ _ n c.loop-i-test.true led c.in_ok-mark_place.ensures;
      last = c.loop-i.invariant.last ∙ next_place c.args.net.now c.loop-i.at c.follow.new.at c.args.steps.now c.loop-i.i _ c.loop-i-test.true led;
    }
