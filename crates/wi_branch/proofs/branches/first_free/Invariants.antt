use Rattle.std.proofs.Common.{◌≡◌, ◌&&◌, not, drop}
use Rattle.std.specs.List.{find}
use Rattle.wi_net.specs.LinkSet.{has}
use Rattle.wi_branch.proofs.branches.first_free.Given as goal

abbrev pub invariant-loop-i : goal.invariant-loop-i
invariant-loop-i l = find (λ e. not (has l.branch.down e) && not (has l.branch.up e)) (drop l.i l.set) ≡ find (λ e. not (has l.branch.down e) && not (has l.branch.up e)) l.set
