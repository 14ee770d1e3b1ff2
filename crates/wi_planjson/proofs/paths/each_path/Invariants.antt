use Rattle.std.proofs.Common.{◌≡◌, drop}
use Rattle.serde_json.specs.View.{items_view}
use Rattle.wi_planjson.specs.Reading.{each}
use Rattle.wi_planjson.specs.Paths.{path_at}
use Rattle.wi_planjson.proofs.paths.each_path.Given as goal

abbrev pub invariant-loop-i : goal.invariant-loop-i
invariant-loop-i l = each (path_at l.net) l.paths l.i (items_view (drop l.i l.values)) ≡ each (path_at l.net) l.fn.paths 0 (items_view l.values)
