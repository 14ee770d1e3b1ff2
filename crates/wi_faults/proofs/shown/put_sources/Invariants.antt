use Rattle.std.proofs.Common.{◌≡◌, ◌++◌, drop}
use Rattle.wi_faults.specs.Shown.{sources_shown}
use Rattle.wi_faults.proofs.shown.put_sources.Given as goal

abbrev pub invariant-loop-i : goal.invariant-loop-i
invariant-loop-i l = l.text ++ sources_shown l.net (drop l.i l.links) ≡ l.initial.text ++ sources_shown l.net l.links
