use Rattle.std.proofs.Common.{◌≡◌, map, take}
use Rattle.serde_json.specs.View.{view}
use Rattle.wi_planjson.specs.Written.{link_names}
use Rattle.wi_planjson.proofs.written.links_value.Given as goal

abbrev pub invariant-loop-link : goal.invariant-loop-link
invariant-loop-link l = map view l.values.items ≡ map (link_names l.net) (take l.link-index l.links)
