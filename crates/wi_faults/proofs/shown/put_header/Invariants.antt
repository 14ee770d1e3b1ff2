use Rattle.std.proofs.Common.{◌≡◌, ◌++◌, drop}
use Rattle.wi_faults.specs.Shown.{header_shown}
use Rattle.wi_faults.proofs.shown.put_header.Given as goal

abbrev pub invariant-loop-i : goal.invariant-loop-i
invariant-loop-i l = l.text ++ header_shown l.net (drop l.i l.header) ≡ l.initial.text ++ header_shown l.net l.header
