use Rattle.wi_saturate.proofs.Counts.{sum_at, sum_past}
use Rattle.wi_saturate.proofs.Elements.{some_there}
use Rattle.wi_saturate.specs.Tries.{rows_from}
use Rattle.wi_saturate.specs.private.Tries.{of_head}
use Rattle.std.proofs.Common.{arith}
use Rattle.std.proofs.lemmas.Option.{slice_get_within}
use Rattle.wi_saturate.proofs.Pushes.{pushed_both, two_kept}
use Rattle.wi_saturate.proofs.joins.begin_waits.Goals as goal
use Rattle.wi_saturate.specs.private.Turns.{heads_of, rules_of, rows_of}
use borrow.Author.Count.{below_more}

pub loop-n-preserved : goal.loop-n-preserved
loop-n-preserved g c =
    let flat = (rules_of c.args.turn.now) in
    let rows = (rows_of c.args.turn.now) in
    let places = c.args.waits.now.places.places in
    let heads = (heads_of c.args.turn.now) in
    let p = some_there places c.loop-n.n (omega (arith, c.loop-n-test.true, c.len-n-end.ensures, c.requires.waits.count)) in
    record {
      tries = omega (arith, c.loop-n.invariant.tries, c.in_ok-push_pairs.ensures.tries p.0 p.1, sum_at (of_head (rows_from rows) heads) places c.loop-n.n p.0 p.1);
      pushed = pushed_both g.W.Domain.scale g.W.Domain.components g.met.W.Domain.laws g.met.W.Domain.admitted c.args.turn.now c.args.frontier.now c.loop-n.frontier c.push_pairs.new.frontier c.args.tries.now c.loop-n.tries c.push_pairs.new.tries c.loop-n.invariant.pushed c.in_ok-push_pairs.ensures.pushed;
      has = below_more _ _
          (λ n low x place j from at there here. two_kept g.W.Domain.scale g.W.Domain.components g.met.W.Domain.laws g.met.W.Domain.admitted flat rows c.loop-n.frontier c.push_pairs.new.frontier c.in_ok-push_pairs.ensures.pushed.adds x.rule x.row j (c.loop-n.invariant.has n low x place j from at there here))
          (λ x place j from at there here. c.in_ok-push_pairs.ensures.has x place j at there here);
    }

pub returns-clause-has : goal.returns-clause-has
returns-clause-has g c n x place j from at there here =
    let within = slice_get_within c.args.waits.now.items.items n x at in
    c.loop-n.invariant.has n (omega (arith, within, c.loop-n-test.false, c.len-n-end.ensures)) x place j from at there here

pub returns-clause-tries : goal.returns-clause-tries
returns-clause-tries g c =
    let past = sum_past (of_head (rows_from (rows_of c.args.turn.now)) (heads_of c.args.turn.now)) c.args.waits.now.places.places c.loop-n.n (omega (arith, c.loop-n-test.false, c.len-n-end.ensures, c.requires.waits.count)) in
    omega (arith, c.loop-n.invariant.tries, past)
