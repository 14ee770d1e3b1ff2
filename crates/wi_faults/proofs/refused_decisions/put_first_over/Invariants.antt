use Rattle.std.proofs.Common.{◌≡◌, ◌+◌, ◌++◌, ◌∷◌, [], drop}
use Rattle.wi_faults.specs.RefusedDecisions.{overflow_from}
use Rattle.wi_faults.proofs.refused_decisions.put_first_over.Given as goal

abbrev pub invariant-loop-i : goal.invariant-loop-i
invariant-loop-i l = record {
  text : l.text ≡ l.initial.text;
  left : overflow_from (l.i + 1) (drop l.i l.values ++ l.effort ∷ []) ≡ overflow_from 1 (l.values ++ l.effort ∷ []);
}
