use Rattle.wi_saturate.proofs.Counts.{sum_met, sum_whole, row_counted, one_if, wait_head, head_counted}
use Rattle.wi_saturate.specs.Tries.{is_from}
use Rattle.std.proofs.lemmas.Option.{slice_get_within}
use Rattle.std.proofs.Common.{◌<◌, ℕ, ◌≡◌, ◌+◌, ◌-◌, Some, slice_get, subst, arith, ◌≤◌, sym, length}
use Rattle.wi_saturate.specs.declared.waits.Wait.{Wait}
use Rattle.wi_saturate.specs.private.Searches.{HasTwo}
use Rattle.wi_saturate.proofs.Elements.{same_item, some_there}
use Rattle.wi_saturate.proofs.Walks.{walk_starts, walk_goes_on, walk_falls, walk_ends}
use Rattle.wi_saturate.proofs.Pushes.{pushed_none, pushed_both, two_kept, wait_meets, wait_there}
use Rattle.wi_saturate.specs.private.Turns.{heads_of, rules_of, rows_of}
use Rattle.wi_saturate.proofs.joins.push_pairs.Goals as goal

pub end-end-requires : goal.end-end-requires
end-end-requires g c =
    let head = wait_head (heads_of c.args.turn.now) (rules_of c.args.turn.now) (rows_of c.args.turn.now) c.args.waits.now c.requires.waits c.args.n c.place-place.result c.place-place.ensures in
    subst (λ (n : ℕ). c.place-place.result < n) (sym c.requires.places.room) (slice_get_within (heads_of c.args.turn.now) c.place-place.result _ head.2)

pub loop-end-init : goal.loop-end-init
loop-end-init g c = record {
  tries = λ p q head. omega arith;
  pushed = pushed_none g.W.Domain.scale g.W.Domain.components g.met.W.Domain.laws g.met.W.Domain.admitted c.args.turn.now c.args.frontier.now c.args.tries.now;
  walk = walk_starts c.args.places.now.places c.place-place.result
      (λ j. HasTwo g.W.Domain.scale g.W.Domain.components (rules_of c.args.turn.now) (rows_of c.args.turn.now) c.args.frontier.now c.get-wait.result.rule c.get-wait.result.row j) c.end-end.result c.end-end.ensures;
}

pub push_two-requires-clause-two : goal.push_two-requires-clause-two
push_two-requires-clause-two g c =
    let j = c.loop-end.end - 1 in
    let step : c.loop-end.end ≡ j + 1 = omega (arith, c.loop-end-test.true) in
    wait_meets (heads_of c.args.turn.now) (rules_of c.args.turn.now) (rows_of c.args.turn.now) c.args.waits.now c.args.places.now c.requires.waits c.requires.places c.args.n c.place-place.result j c.get-wait.result
    (wait_there c.args.waits.now c.args.n c.get-wait.result c.requires.within c.get-wait.ensures) c.place-place.ensures (c.loop-end.invariant.walk.at j step)

pub loop-end-smaller : goal.loop-end-smaller
loop-end-smaller g c =
    let step : c.loop-end.end ≡ (c.loop-end.end - 1) + 1 = omega (arith, c.loop-end-test.true) in
    walk_falls c.args.places.now.places c.place-place.result _ c.loop-end.end (c.loop-end.end - 1) c.end_before-end.result c.loop-end.invariant.walk step c.end_before-end.ensures

pub loop-end-preserved : goal.loop-end-preserved
loop-end-preserved g c =
    let m = g.W.Domain.scale in
    let w = g.W.Domain.components in
    let flat = (rules_of c.args.turn.now) in
    let rows = (rows_of c.args.turn.now) in
    let j = c.loop-end.end - 1 in
    let step : c.loop-end.end ≡ j + 1 = omega (arith, c.loop-end-test.true) in
    let wait = c.get-wait.result in
    let low : c.loop-end.end ≤ length c.args.places.now.places = c.loop-end.invariant.walk.within in
    let s = some_there rows j (omega (arith, c.requires.places.count, c.loop-end-test.true)) in
    record {
      tries = λ p q head. omega (
        arith,
        c.loop-end.invariant.tries p q head,
        c.in_ok-push_two.ensures.tries,
        row_counted (heads_of c.args.turn.now) rows c.args.places.now c.requires.places c.place-place.result p q head j s.0 s.1 (c.loop-end.invariant.walk.at j step),
        sum_met (λ r. one_if (is_from p q r)) rows c.loop-end.end j c.end_before-end.result s.0 step (c.end_before-end.ensures c.place-place.result (c.loop-end.invariant.walk.at j step)).within s.1,
      );
      pushed = pushed_both g.W.Domain.scale g.W.Domain.components g.met.W.Domain.laws g.met.W.Domain.admitted c.args.turn.now c.args.frontier.now c.loop-end.frontier c.push_two.new.frontier c.args.tries.now c.loop-end.tries c.push_two.new.tries c.loop-end.invariant.pushed c.in_ok-push_two.ensures.pushed;
      walk = walk_goes_on c.args.places.now.places c.place-place.result (λ j. HasTwo m w flat rows c.loop-end.frontier wait.rule wait.row j) (λ j. HasTwo m w flat rows c.push_two.new.frontier wait.rule wait.row j)
          c.loop-end.end j c.end_before-end.result c.loop-end.invariant.walk step c.end_before-end.ensures
          (λ i. two_kept g.W.Domain.scale g.W.Domain.components g.met.W.Domain.laws g.met.W.Domain.admitted flat rows c.loop-end.frontier c.push_two.new.frontier c.in_ok-push_two.ensures.pushed.adds wait.rule wait.row i) c.in_ok-push_two.ensures.has;
    }

pub returns-clause-has : goal.returns-clause-has
returns-clause-has g c x place j at there here =
    let wait = c.get-wait.result in
    let same : wait ≡ x = same_item c.args.waits.now.items.items c.args.n wait x (wait_there c.args.waits.now c.args.n wait c.requires.within c.get-wait.ensures) at in
    let alike : place ≡ c.place-place.result = same_item c.args.waits.now.places.places c.args.n place c.place-place.result there c.place-place.ensures in
    subst (λ (z : Wait). HasTwo g.W.Domain.scale g.W.Domain.components (rules_of c.args.turn.now) (rows_of c.args.turn.now) c.loop-end.frontier z.rule z.row j) same
    (walk_ends c.args.places.now.places c.place-place.result (λ j. HasTwo g.W.Domain.scale g.W.Domain.components (rules_of c.args.turn.now) (rows_of c.args.turn.now) c.loop-end.frontier wait.rule wait.row j) c.loop-end.end c.loop-end.invariant.walk c.loop-end-test.false j
    (subst (λ z. slice_get c.args.places.now.places j ≡ Some z) alike here))

pub returns-clause-tries : goal.returns-clause-tries
returns-clause-tries g c place there =
    let alike : c.place-place.result ≡ place = same_item c.args.waits.now.places.places c.args.n c.place-place.result place c.place-place.ensures there in
    let h = wait_head (heads_of c.args.turn.now) (rules_of c.args.turn.now) (rows_of c.args.turn.now) c.args.waits.now c.requires.waits c.args.n c.place-place.result c.place-place.ensures in
    omega (
      arith,
      c.loop-end.invariant.tries h.0 h.1 h.2,
      sum_whole (λ r. one_if (is_from h.0 h.1 r)) (rows_of c.args.turn.now) c.loop-end.end,
      head_counted (heads_of c.args.turn.now) (rows_of c.args.turn.now) place h.0 h.1 (subst (λ n. slice_get (heads_of c.args.turn.now) n ≡ Some (h.0, h.1)) alike h.2),
    )
