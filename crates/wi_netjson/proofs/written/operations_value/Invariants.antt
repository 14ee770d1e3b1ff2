use Rattle.std.proofs.Common.{◌≡◌, map, take}
use Rattle.serde_json.specs.View.{view}
use Rattle.wi_netjson.specs.Written.{op_data}
use Rattle.wi_netjson.proofs.written.operations_value.Given as goal

abbrev pub invariant-loop-op : goal.invariant-loop-op
invariant-loop-op l = map view l.values.items ≡ map (op_data l.network) (take l.op-index l.ops)
