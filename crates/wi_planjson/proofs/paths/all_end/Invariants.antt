use Rattle.std.proofs.Common.{◌≡◌, not, drop}
use Rattle.std.specs.List.{position_from}
use Rattle.wi_plan.specs.Plans.{is_end}
use Rattle.wi_planjson.proofs.paths.all_end.Given as goal

abbrev pub invariant-loop-i : goal.invariant-loop-i
invariant-loop-i l = position_from (λ path. not (is_end l.paths path)) l.i (drop l.i l.list) ≡ position_from (λ path. not (is_end l.paths path)) 0 l.paths
