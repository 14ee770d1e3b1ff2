use Rattle.std.proofs.Common.{◌≡◌, drop}
use Rattle.serde_json.specs.View.{items_view}
use Rattle.wi_planjson.specs.Reading.{each}
use Rattle.wi_planjson.specs.Names.{named_at}
use Rattle.wi_planjson.specs.private.Places.{place_in}
use Rattle.wi_planjson.proofs.routes.are_named.Given as goal

abbrev pub invariant-loop-j : goal.invariant-loop-j
invariant-loop-j l = each (named_at (place_in l.route)) tt l.j (items_view (drop l.j l.values)) ≡ each (named_at (place_in l.route)) tt 0 (items_view l.values)
