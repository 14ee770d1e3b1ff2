use Rattle.std.proofs.Common.{◌≡◌, ◌+◌, drop}
use Rattle.wi_trace.specs.Replays.{first_fault}
use Rattle.wi_trace.specs.private.Hops.{cause_in, end_cause_in}
use Rattle.wi_trace.proofs.replays.fault_after.Given as goal

abbrev pub invariant-loop-i : goal.invariant-loop-i
invariant-loop-i l = first_fault l.net (cause_in l.world l.net) (end_cause_in l.world l.net l.end) (l.i + 1) l.at (drop l.i l.steps) ≡ first_fault l.net (cause_in l.world l.net) (end_cause_in l.world l.net l.end) 1 l.initial.at l.steps
