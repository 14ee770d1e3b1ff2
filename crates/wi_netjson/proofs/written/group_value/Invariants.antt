use Rattle.std.proofs.Common.{◌≡◌, map, take}
use Rattle.serde_json.specs.View.{view}
use Rattle.wi_netjson.specs.Written.{way_data}
use Rattle.wi_netjson.proofs.written.group_value.Given as goal

abbrev pub invariant-loop-member : goal.invariant-loop-member
invariant-loop-member l = map view l.values.items ≡ map (way_data l.network) (take l.member-index l.group)
