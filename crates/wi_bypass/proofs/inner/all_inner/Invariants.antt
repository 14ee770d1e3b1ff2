use Rattle.std.proofs.Common.{◌≡◌, ◌++◌, drop}
use Rattle.std.specs.List.{flat_map}
use Rattle.wi_plan.specs.declared.plan.Path.{Path}
use Rattle.wi_protect.specs.OneWay.{inner}
use Rattle.wi_bypass.proofs.inner.all_inner.Given as goal

abbrev pub invariant-loop-path : goal.invariant-loop-path
invariant-loop-path l =
    l.all.items ++ flat_map (λ (path : Path). inner path.links) (drop l.path-index l.paths) ≡ flat_map (λ (path : Path). inner path.links) l.paths
