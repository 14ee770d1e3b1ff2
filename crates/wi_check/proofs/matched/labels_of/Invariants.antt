use Rattle.std.proofs.Common.{◌≡◌, ◌++◌, drop, map}
use Rattle.wi_nfa.specs.Sets.{symbols}
use Rattle.wi_check.proofs.matched.labels_of.Given as goal

abbrev pub invariant-loop-i : goal.invariant-loop-i
invariant-loop-i l = symbols l.word.items ++ map (λ x. x.0.0) (drop l.i l.header) ≡ map (λ x. x.0.0) l.header
