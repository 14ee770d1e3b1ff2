use Rattle.std.proofs.Common.{rules}
use Rattle.serde_json.specs.View.{view}
use Rattle.wi_planjson.proofs.ReadLemmas.{network_json}
use Rattle.wi_planjson.proofs.PlanLemmas.{gives_plan}
use Rattle.wi_planjson.proofs.plan.read_by.Goals as goal

pub value_of-requires : goal.value_of-requires
value_of-requires c = network_json c.args.bytes.now c.args.net.now c.requires

pub returns-clause-plan : goal.returns-clause-plan
returns-clause-plan c = gives_plan c.args.form c.args.net.now (view c.in_ok-value.value) c.plan_of-plan.result c.plan_of-plan.ensures

pub plan_of-plan-requires : goal.plan_of-plan-requires
plan_of-plan-requires c = search rules
