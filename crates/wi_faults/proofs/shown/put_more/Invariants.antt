use Rattle.std.proofs.Common.{◌≡◌, ◌++◌, drop}
use Rattle.wi_faults.specs.Shown.{more_links}
use Rattle.wi_faults.proofs.shown.put_more.Given as goal

abbrev pub invariant-loop-i : goal.invariant-loop-i
invariant-loop-i l = l.text ++ more_links l.net (drop l.i l.links) ≡ l.initial.text ++ more_links l.net (drop 1 l.links)
