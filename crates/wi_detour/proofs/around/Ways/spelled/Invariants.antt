use Rattle.std.proofs.Common.{◌≡◌, ◌++◌, drop}
use Rattle.wi_detour.specs.private.Around.{spelled}
use Rattle.wi_detour.proofs.around.Ways.spelled.Given as goal

abbrev pub invariant-loop-id : goal.invariant-loop-id
invariant-loop-id l = l.via.items ++ spelled l.self (drop l.id-index l.ids) ≡ spelled l.self l.ids
