use Rattle.std.proofs.Common.{◌≡◌, map, take}
use Rattle.serde_json.specs.View.{view}
use Rattle.wi_planjson.specs.Written.{bypass_data}
use Rattle.wi_planjson.proofs.written.bypasses_value.Given as goal

abbrev pub invariant-loop-bypass : goal.invariant-loop-bypass
invariant-loop-bypass l = map view l.values.items ≡ map (bypass_data l.net) (take l.bypass-index l.bypasses)
