use Rattle.std.proofs.Common.{◌≡◌, ◌++◌, drop}
use Rattle.wi_wire.specs.Stacks.{each_entry}
use Rattle.wi_report.specs.Stacks.{entry_line}
use Rattle.wi_report.proofs.stacks.put_lines.Given as goal

abbrev pub invariant-loop-i : goal.invariant-loop-i
invariant-loop-i l = l.text ++ each_entry entry_line (drop l.i l.entries) ≡ l.initial.text ++ each_entry entry_line l.entries
