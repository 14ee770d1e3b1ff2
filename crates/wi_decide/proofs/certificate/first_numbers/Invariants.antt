use Rattle.std.proofs.Common.{◌≡◌, ◌++◌, drop, map}
use Rattle.wi_decide.specs.Showing.{first_numbers}
use Rattle.wi_decide.proofs.certificate.first_numbers.Given as goal

-- the labels that are left make it whole
abbrev pub invariant-loop-i : goal.invariant-loop-i
invariant-loop-i l = l.numbers.items ++ map (λ e. e.0.0) (drop l.i l.header) ≡ first_numbers l.fn.first l.header
