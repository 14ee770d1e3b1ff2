use Rattle.std.proofs.Common.{◌≡◌, map, take}
use Rattle.serde_json.specs.View.{view}
use Rattle.wi_planjson.specs.Written.{path_data}
use Rattle.wi_planjson.proofs.written.paths_value.Given as goal

abbrev pub invariant-loop-path : goal.invariant-loop-path
invariant-loop-path l = map view l.values.items ≡ map (path_data l.net) (take l.path-index l.paths)
