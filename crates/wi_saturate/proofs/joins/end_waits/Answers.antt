use Rattle.wi_saturate.proofs.Counts.{sum_met, sum_whole, one_if, there}
use Rattle.std.specs.Prelude.{◌==◌}
use Rattle.std.proofs.Common.{◌≡◌, ◌+◌, ◌-◌, ◌<◌, ◌≤◌, Some, slice_get, subst, arith, length, refl}
use Rattle.wi_saturate.specs.declared.waits.Wait.{Wait}
use Rattle.wi_saturate.specs.private.Searches.{HasTwo}
use Rattle.wi_saturate.proofs.Elements.{some_there, same_item}
use Rattle.wi_saturate.proofs.Walks.{walk_starts, walk_goes_on, walk_falls, walk_ends}
use Rattle.wi_saturate.proofs.Pushes.{place_within, pushed_none, pushed_both, two_kept, wait_ends, wait_there}
use Rattle.wi_saturate.specs.private.Turns.{heads_of, rules_of, rows_of}
use Rattle.wi_saturate.proofs.joins.end_waits.Goals as goal

pub end-end-requires : goal.end-end-requires
end-end-requires g c =
    let less = place_within g.W.Domain.components c.args.turn.now c.requires.turn in
    omega (arith, less, c.requires.waits.room)

pub loop-end-init : goal.loop-end-init
loop-end-init g c = record {
  tries = omega arith;
  pushed = pushed_none g.W.Domain.scale g.W.Domain.components g.met.W.Domain.laws g.met.W.Domain.admitted c.args.turn.now c.args.frontier.now c.args.tries.now;
  walk = walk_starts c.args.waits.now.places.places c.args.turn.now.place
      (λ n. (w : Wait) → slice_get c.args.waits.now.items.items n ≡ Some w → HasTwo g.W.Domain.scale g.W.Domain.components (rules_of c.args.turn.now) (rows_of c.args.turn.now) c.args.frontier.now w.rule w.row c.args.turn.now.last) c.end-end.result c.end-end.ensures;
}

pub push_two-requires-clause-two : goal.push_two-requires-clause-two
push_two-requires-clause-two g c =
    let n = c.loop-end.end - 1 in
    let step : c.loop-end.end ≡ n + 1 = omega (arith, c.loop-end-test.true) in
    let low : c.loop-end.end ≤ length c.args.waits.now.places.places = c.loop-end.invariant.walk.within in
    let within : n < length c.args.waits.now.items.items = omega (arith, c.requires.waits.count) in
    let s = some_there (rows_of c.args.turn.now) c.args.turn.now.last c.requires.turn.within in
    wait_ends (heads_of c.args.turn.now) (rules_of c.args.turn.now) (rows_of c.args.turn.now) c.args.waits.now c.requires.waits n c.args.turn.now.place c.args.turn.now.last _ (wait_there c.args.waits.now n _ within c.get-wait.ensures)
    (c.loop-end.invariant.walk.at n step) s.0 s.1 (c.requires.turn.head s.0 s.1)

pub loop-end-smaller : goal.loop-end-smaller
loop-end-smaller g c =
    let step : c.loop-end.end ≡ (c.loop-end.end - 1) + 1 = omega (arith, c.loop-end-test.true) in
    walk_falls c.args.waits.now.places.places c.args.turn.now.place _ c.loop-end.end (c.loop-end.end - 1) c.end_before-end.result c.loop-end.invariant.walk step c.end_before-end.ensures

pub loop-end-preserved : goal.loop-end-preserved
loop-end-preserved g c =
    let m = g.W.Domain.scale in
    let w = g.W.Domain.components in
    let flat = (rules_of c.args.turn.now) in
    let rows = (rows_of c.args.turn.now) in
    let n = c.loop-end.end - 1 in
    let step : c.loop-end.end ≡ n + 1 = omega (arith, c.loop-end-test.true) in
    let low : c.loop-end.end ≤ length c.args.waits.now.places.places = c.loop-end.invariant.walk.within in
    let within : n < length c.args.waits.now.items.items = omega (arith, c.requires.waits.count) in
    let wait = c.get-wait.result in
    record {
      tries = omega (
        arith,
        c.loop-end.invariant.tries,
        c.in_ok-push_two.ensures.tries,
        there c.args.turn.now.place c.args.turn.now.place refl,
        sum_met (λ p. one_if (p == c.args.turn.now.place)) c.args.waits.now.places.places c.loop-end.end n c.end_before-end.result c.args.turn.now.place step
            (c.end_before-end.ensures c.args.turn.now.place (c.loop-end.invariant.walk.at n step)).within (c.loop-end.invariant.walk.at n step),
      );
      pushed = pushed_both g.W.Domain.scale g.W.Domain.components g.met.W.Domain.laws g.met.W.Domain.admitted c.args.turn.now c.args.frontier.now c.loop-end.frontier c.push_two.new.frontier c.args.tries.now c.loop-end.tries c.push_two.new.tries c.loop-end.invariant.pushed c.in_ok-push_two.ensures.pushed;
      walk = walk_goes_on c.args.waits.now.places.places c.args.turn.now.place
          (λ n. (x : Wait) → slice_get c.args.waits.now.items.items n ≡ Some x → HasTwo m w flat rows c.loop-end.frontier x.rule x.row c.args.turn.now.last)
          (λ n. (x : Wait) → slice_get c.args.waits.now.items.items n ≡ Some x → HasTwo m w flat rows c.push_two.new.frontier x.rule x.row c.args.turn.now.last)
          c.loop-end.end n c.end_before-end.result c.loop-end.invariant.walk step c.end_before-end.ensures
          (λ i h x at. two_kept g.W.Domain.scale g.W.Domain.components g.met.W.Domain.laws g.met.W.Domain.admitted flat rows c.loop-end.frontier c.push_two.new.frontier c.in_ok-push_two.ensures.pushed.adds x.rule x.row c.args.turn.now.last (h x at))
          (λ x at. subst (λ (z : Wait). HasTwo m w flat rows c.push_two.new.frontier z.rule z.row c.args.turn.now.last) (same_item c.args.waits.now.items.items n wait x (wait_there c.args.waits.now n wait within c.get-wait.ensures) at) c.in_ok-push_two.ensures.has);
    }

pub returns-clause-has : goal.returns-clause-has
returns-clause-has g c n w at place =
    walk_ends c.args.waits.now.places.places c.args.turn.now.place
    (λ n. (w : Wait) → slice_get c.args.waits.now.items.items n ≡ Some w → HasTwo g.W.Domain.scale g.W.Domain.components (rules_of c.args.turn.now) (rows_of c.args.turn.now) c.loop-end.frontier w.rule w.row c.args.turn.now.last)
    c.loop-end.end c.loop-end.invariant.walk c.loop-end-test.false n place w at

pub returns-clause-tries : goal.returns-clause-tries
returns-clause-tries g c = omega (arith, c.loop-end.invariant.tries, sum_whole (λ p. one_if (p == c.args.turn.now.place)) c.args.waits.now.places.places c.loop-end.end)
