-- All forward links are before the first backward one.
use Rattle.wi_gen.proofs.links.add_links.Goals as goal
use Rattle.wi_gen.proofs.LinkLemmas.{all_forward, all_backward}

pub loop-i-2-init : goal.loop-i-2-init
loop-i-2-init c =
    all_forward _ c.args.ring.now c.loop-i.i c.size-i-end.result c.keeps.ensures c.size-i-end.ensures c.loop-i.auto.i-end
    c.loop-i-test.false c.loop-i.invariant

pub returns : goal.returns
returns c =
    all_backward _ c.args.ring.now c.loop-i-2.i c.size-i-end-2.result c.keeps.ensures c.size-i-end-2.ensures c.loop-i-2.auto.i-end
    c.loop-i-2-test.false c.loop-i-2.invariant
