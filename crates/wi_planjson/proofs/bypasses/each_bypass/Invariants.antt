use Rattle.std.proofs.Common.{◌≡◌, drop}
use Rattle.serde_json.specs.View.{items_view}
use Rattle.wi_planjson.specs.Reading.{each}
use Rattle.wi_planjson.specs.Bypasses.{bypass_at}
use Rattle.wi_planjson.proofs.bypasses.each_bypass.Given as goal

abbrev pub invariant-loop-i : goal.invariant-loop-i
invariant-loop-i l = each (bypass_at l.net) l.bypasses l.i (items_view (drop l.i l.values)) ≡ each (bypass_at l.net) l.fn.bypasses 0 (items_view l.values)
