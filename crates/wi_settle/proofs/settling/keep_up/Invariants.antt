use Rattle.wi_settle.specs.Findings.{IsSettled}
use Rattle.wi_settle.specs.private.Asking.{AreKept}
use Rattle.wi_settle.proofs.settling.keep_up.Given as goal

abbrev pub invariant-loop-i : goal.invariant-loop-i
invariant-loop-i l = record {
  settled : IsSettled l.problem l.settled;
  kept : AreKept l.problem l.bounds;
}
