use Rattle.std.proofs.Common.{◌≡◌, drop}
use Rattle.std.specs.List.{find}
use Rattle.wi_net.specs.LinkSet.{has}
use Rattle.wi_policy.proofs.bounds.first_in.Given as goal

abbrev pub invariant-loop-i : goal.invariant-loop-i
invariant-loop-i l = find (λ e. has l.other e) (drop l.i l.set) ≡ find (λ e. has l.other e) l.set
