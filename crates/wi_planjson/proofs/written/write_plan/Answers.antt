use Rattle.std.proofs.Common.{◌≡◌, ◌∙◌}
use Rattle.serde_json.specs.Data.{Data}
use Rattle.serde_json.specs.View.{view}
use Rattle.serde_json.specs.declared.value.Value.{Object}
use Rattle.serde_json.proofs.Views.{view-Object}
use Rattle.wi_netjson.proofs.RoundTrip.{bytes_mean}
use Rattle.wi_planjson.specs.Written.{plan_data}
use Rattle.wi_planjson.proofs.PlanText.{has_network, plan_flat, text_is}
use Rattle.wi_planjson.proofs.ReadAgain.{plan_means}
use Rattle.wi_planjson.proofs.written.write_plan.Goals as goal

pub returns : goal.returns
returns c =
    let net = c.args.net.now in
    let plan = c.args.plan.now in
    let unprotected = c.args.unprotected.now in
    let made : Data = plan_data net plan unprotected in
    let is : view (Object c.in_ok-plan_members.field-0) ≡ made = view-Object c.in_ok-plan_members.field-0 ∙ c.in_ok-plan_members.ensures in
    record {
      text = text_is net plan unprotected _ _ is c.in_ok-to_vec.ensures.text;
      network = bytes_mean net made _ _ c.keeps.ensures (has_network net plan unprotected) (plan_flat net plan unprotected) is c.in_ok-to_vec.ensures.utf8 c.in_ok-to_vec.ensures.reads_back;
      plan = plan_means net plan unprotected _ _ c.keeps.ensures c.requires.plan is c.in_ok-to_vec.ensures.utf8 c.in_ok-to_vec.ensures.reads_back;
    }
