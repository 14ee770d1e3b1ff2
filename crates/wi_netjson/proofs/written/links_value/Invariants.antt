use Rattle.std.proofs.Common.{◌≡◌, map, take}
use Rattle.serde_json.specs.View.{view}
use Rattle.wi_netjson.specs.Written.{link_data}
use Rattle.wi_netjson.proofs.written.links_value.Given as goal

abbrev pub invariant-loop-e : goal.invariant-loop-e
invariant-loop-e l = map view l.values.items ≡ map (link_data l.network) (take l.e l.network.links)
