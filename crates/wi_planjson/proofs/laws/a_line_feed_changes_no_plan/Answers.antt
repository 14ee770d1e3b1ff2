use Rattle.std.proofs.Common.{ap}
use Rattle.std.specs.Prelude.{unwrap_or}
use Rattle.serde_json.specs.Data.{null}
use Rattle.wi_netjson.proofs.LineFeeds.{json_fed}
use Rattle.wi_planjson.specs.Plan.{plan_of, plan_in}
use Rattle.wi_planjson.proofs.laws.a_line_feed_changes_no_plan.Goals as goal

pub returns : goal.returns
unfolding plan_in
returns c = λ net bytes. ap (λ d. plan_of net (unwrap_or d null)) (json_fed bytes)
