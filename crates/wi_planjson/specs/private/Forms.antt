-- How the bypasses of a file are to be read.
use Rattle.std.specs.Prelude.{List, Result}
use Rattle.serde_json.specs.Data.{Data}
use Rattle.wi_net.specs.Net.{Net}
use Rattle.wi_plan.specs.declared.plan.Bypass.{Bypass}
use Rattle.wi_planjson.specs.declared.bypasses.Form.{Form}
use Rattle.wi_planjson.specs.declared.bypasses.Form.TheVariants.{Whole, Draft}
use Rattle.wi_planjson.specs.declared.refused.PlanRefused.{PlanRefused}
use Rattle.wi_planjson.specs.Bypasses.{bypasses_of}
use Rattle.wi_planjson.specs.Plan.{drafted_bypasses_of}

abbrev pub bypasses_by : Form → Net → Data → Result (List Bypass) PlanRefused
bypasses_by Whole net d = bypasses_of net d
bypasses_by Draft net d = drafted_bypasses_of net d
