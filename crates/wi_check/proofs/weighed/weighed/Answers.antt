use Rattle.wi_quantity.specs.Weighing.{components}
use Rattle.wi_check.proofs.WeightLemmas.{run_weighs_so}
use Rattle.wi_check.proofs.weighed.weighed.Goals as goal

pub returns : goal.returns
returns c =
    run_weighs_so c.args.net.now c.args.vector.now c.args.run.now c.in_ok-travel.travel.weight (components c.first_weight-first.result) _ _ _ _
    c.in_ok-twin_of.ensures c.as_slice-steps.ensures c.first_weight-first.ensures.value c.in_ok-travel.ensures.weight c.len.ensures c.in_ok-travel.ensures.work
