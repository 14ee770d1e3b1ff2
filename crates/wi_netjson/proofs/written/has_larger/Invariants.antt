use Rattle.std.proofs.Common.{◌≡◌, false, take}
use Rattle.std.specs.List.{list_any}
use Rattle.wi_netjson.specs.Written.{is_larger}
use Rattle.wi_netjson.proofs.written.has_larger.Given as goal

abbrev pub invariant-loop-e : goal.invariant-loop-e
invariant-loop-e l = list_any (λ x. is_larger l.network.links x.risk.0) (take l.e l.network.links) ≡ false
