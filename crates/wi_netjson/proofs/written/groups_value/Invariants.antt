use Rattle.std.proofs.Common.{◌≡◌, map, take}
use Rattle.serde_json.specs.View.{view}
use Rattle.wi_netjson.specs.Written.{group_data}
use Rattle.wi_netjson.proofs.written.groups_value.Given as goal

abbrev pub invariant-loop-group : goal.invariant-loop-group
invariant-loop-group l = map view l.values.items ≡ map (group_data l.network) (take l.group-index l.groups)
