-- The rows before this place are there.
use Rattle.wi_gen.specs.private.Making.{Lacks}
use Rattle.wi_gen.specs.private.Rows.{from_place}
use Rattle.wi_gen.proofs.rows.add_bypass_rows.Given as goal

abbrev pub invariant-loop-d : goal.invariant-loop-d
invariant-loop-d l = Lacks l.ring l.builder (from_place l.ring l.i l.d)
