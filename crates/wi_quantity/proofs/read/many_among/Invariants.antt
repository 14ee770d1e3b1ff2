use Rattle.std.proofs.Common.{◌≡◌, length, nat_lt, drop}
use Rattle.std.specs.List.{find}
use Rattle.wi_quantity.proofs.read.many_among.Given as goal

abbrev pub invariant-loop-term : goal.invariant-loop-term
invariant-loop-term l = find (λ parts. nat_lt 5 (length parts)) (drop l.term-index l.terms) ≡ find (λ parts. nat_lt 5 (length parts)) l.terms
