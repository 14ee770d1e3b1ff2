use Rattle.std.proofs.Common.{◌≡◌, map, take}
use Rattle.serde_json.specs.Data.{string}
use Rattle.serde_json.specs.View.{view}
use Rattle.wi_netjson.specs.Written.{labels_in}
use Rattle.wi_netjson.proofs.written.class_value.Given as goal

abbrev pub invariant-loop-l : goal.invariant-loop-l
invariant-loop-l l = map view l.values.items ≡ map string (labels_in l.class (take l.l l.network.classes) (take l.l l.network.labels))
