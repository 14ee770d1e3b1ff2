use Rattle.std.proofs.Common.{◌≡◌, map, take}
use Rattle.serde_json.specs.View.{view}
use Rattle.wi_netjson.specs.Written.{row_data}
use Rattle.wi_netjson.proofs.written.tables_value.Given as goal

abbrev pub invariant-loop-i : goal.invariant-loop-i
invariant-loop-i l = map view l.values.items ≡ map (row_data l.network) (take l.i l.network.rows)
