use Rattle.std.proofs.Common.{◌≡◌, ◌+◌, ◌-◌, Some, slice_get, arith}
use Rattle.wi_saturate.specs.declared.row.Row.{Row}
use Rattle.wi_saturate.proofs.Walks.{walk_starts, walk_goes_on, walk_falls, walk_ends}
use Rattle.wi_saturate.proofs.Searching.{settled_here, other_row, unsettled}
use Rattle.wi_saturate.proofs.search.is_settled.Goals as goal

pub loop-end-init : goal.loop-end-init
loop-end-init g c = walk_starts c.args.places.now.places c.args.place (λ i. (r : Row _) → slice_get c.args.rows.now i ≡ Some r → r.q ≡ c.args.q → ⊥) c.end-end.result c.end-end.ensures

pub loop-end-smaller : goal.loop-end-smaller
loop-end-smaller g c =
    let step : c.loop-end.end ≡ (c.loop-end.end - 1) + 1 = omega (arith, c.loop-end-test.true) in
    walk_falls c.args.places.now.places c.args.place (λ i. (r : Row _) → slice_get c.args.rows.now i ≡ Some r → r.q ≡ c.args.q → ⊥) c.loop-end.end (c.loop-end.end - 1) c.end_before-end.result c.loop-end.invariant step c.end_before-end.ensures

pub loop-end-preserved : goal.loop-end-preserved
loop-end-preserved g c =
    let i = c.loop-end.end - 1 in
    let step : c.loop-end.end ≡ i + 1 = omega (arith, c.loop-end-test.true) in
    walk_goes_on c.args.places.now.places c.args.place (λ i. (r : Row _) → slice_get c.args.rows.now i ≡ Some r → r.q ≡ c.args.q → ⊥) (λ i. (r : Row _) → slice_get c.args.rows.now i ≡ Some r → r.q ≡ c.args.q → ⊥)
    c.loop-end.end i c.end_before-end.result c.loop-end.invariant step c.end_before-end.ensures (λ k h. h)
    (other_row c.args.rows.now c.args.places.now.places c.requires.count c.args.place c.args.q i c.index-rows-i.result (c.loop-end.invariant.at i step) c.if-rows-i.false)

pub returns-then-rows-i : goal.returns-then-rows-i
returns-then-rows-i g c =
    let i = c.loop-end.end - 1 in
    let step : c.loop-end.end ≡ i + 1 = omega (arith, c.loop-end-test.true) in
    settled_here c.args.rows.now c.args.places.now.places c.requires.count c.args.place c.args.q i c.index-rows-i.result (c.loop-end.invariant.at i step) c.if-rows-i.true

pub returns : goal.returns
returns g c =
    unsettled c.args.rows.now c.args.places.now.places c.requires.count c.args.place c.args.q
    (walk_ends c.args.places.now.places c.args.place (λ i. (r : Row _) → slice_get c.args.rows.now i ≡ Some r → r.q ≡ c.args.q → ⊥) c.loop-end.end c.loop-end.invariant c.loop-end-test.false)
