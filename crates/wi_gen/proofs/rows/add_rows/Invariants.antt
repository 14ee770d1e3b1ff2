-- The rows before those of this router are there.
use Rattle.wi_gen.specs.private.Making.{Lacks}
use Rattle.wi_gen.specs.private.Rows.{from_middle, from_bypass}
use Rattle.wi_gen.proofs.rows.add_rows.Given as goal

abbrev pub invariant-loop-i : goal.invariant-loop-i
invariant-loop-i l = Lacks l.ring l.builder (from_middle l.ring l.i)

abbrev pub invariant-loop-i-2 : goal.invariant-loop-i-2
invariant-loop-i-2 l = Lacks l.ring l.builder (from_bypass l.ring l.i)
