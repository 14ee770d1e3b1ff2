use Rattle.std.proofs.Common.{◌≡◌, ◌≤◌, ◌+◌, ◌*◌, ◌^◌, ℕ, List, Bool, Some, Result, Ok, get_or, drop, sym, ap, subst, arith}
use Rattle.wi_base.specs.declared.no_memory.NoMemory.{NoMemory}
use Rattle.wi_weight.specs.Weights.{EachBelow, plus}
use Rattle.wi_world.specs.declared.run.Step.{Step}
use Rattle.wi_world.specs.Moves.{moved}
use Rattle.wi_quantity.specs.Weighing.{components, steps_weight}
use Rattle.wi_check.proofs.WeightLemmas.{weight_next, work_next, small_next}
use Rattle.wi_check.proofs.weighed.weighed_after.Goals as goal

abbrev leads : Bool → Result Bool NoMemory
leads b = Ok b

pub loop-step-preserved : goal.loop-step-preserved
loop-step-preserved c =
    let net = c.args.net.now in
    let vector = c.args.vector.now in
    let steps = c.args.steps.now in
    let i = c.loop-step.step-index in
    let d : Step = record { group = 0; member = 0 } in
    let within = c.loop-step-test.true in
    let on : moved net c.loop-step.at (get_or steps i d) ≡ Some c.follow.new.at = c.in_ok-follow.ensures.on (ap leads c.if-not-branch.false) in
    let kept = c.loop-step.invariant in
    let sum = components c.loop-step.weight in
    let share = components c.in_ok-share.share in
    record {
      weight = subst (λ (w : List ℕ). plus w (steps_weight net vector c.args.end c.follow.new.at (drop (i + 1) steps)) ≡ plus (components c.args.first) (steps_weight net vector c.args.end c.args.at steps)) (sym c.added-weight.ensures)
          (weight_next net vector c.args.end c.loop-step.at c.follow.new.at steps i d within on sum share _ c.in_ok-share.ensures.weight kept.weight);
      small = subst (λ (w : List ℕ). EachBelow ((i + 1 + 1) * 2 ^ 64) w) (sym c.added-weight.ensures) (small_next i sum share kept.small c.in_ok-share.ensures.small);
      work = work_next net vector c.args.end c.loop-step.at c.follow.new.at steps i d within on c.loop-step.work c.in_ok-share.done _ c.in_ok-share.ensures.work kept.work;
      few = (let before : c.loop-step.work ≤ 8 * i = kept.few in let more : c.in_ok-share.done ≤ 8 = c.in_ok-share.ensures.few in omega (arith, before, more));
    }
