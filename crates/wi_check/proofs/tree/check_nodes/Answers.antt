use Rattle.std.proofs.Common.{reverse, ◌∙◌}
use Rattle.wi_check.proofs.TreeLemmas.{alone, begun_with, all_checked_at}
use Rattle.wi_check.proofs.tree.check_nodes.Goals as goal

pub loop-place-init : goal.loop-place-init
loop-place-init c =
    begun_with c.args.problem.now c.args.tree.now c.keeps.ensures.problem c.requires.text c.requires.shown c.put.new.left.items
    (alone _ _ _ _ c.in_ok-put.ensures c.requires.none (c.in_ok-twin.ensures ∙ c.bounds.ensures))

pub returns-clause-accepted : goal.returns-clause-accepted
returns-clause-accepted c =
    all_checked_at c.args.problem.now c.args.tree.now c.loop-place.place c.as_slice-place-end.result.now (reverse c.loop-place.left.items)
    c.as_slice-place-end.ensures c.loop-place-test.false c.loop-place.auto.place-end c.loop-place.invariant
