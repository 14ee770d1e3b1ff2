use Rattle.std.proofs.Common.{List, ◌++◌, drop}
use Rattle.wi_plan.specs.declared.plan.Bypass.{Bypass}
use Rattle.wi_bypass.specs.Bypasses.{AreFound}
use Rattle.wi_bypass.specs.private.Marks.{IsAdded}
use Rattle.wi_bypass.proofs.missing.add_detours.Given as goal

abbrev pub invariant-loop-link : goal.invariant-loop-link
invariant-loop-link l = (rest : List Bypass) → AreFound l.net (drop l.link-index l.links) rest → IsAdded l.net l.links l.fn.found.items (l.found.items ++ rest)
