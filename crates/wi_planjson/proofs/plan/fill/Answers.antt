use Rattle.std.proofs.Common.{rules}
use Rattle.wi_planjson.specs.Plan.{plan_by}
use Rattle.wi_planjson.proofs.plan.fill.Goals as goal

pub returns-in_err-read_bypasses : goal.returns-in_err-read_bypasses
unfolding plan_by
returns-in_err-read_bypasses c = search rules
