use Rattle.std.proofs.Common.{take}
use Rattle.wi_audit.specs.Outages.{AreTried}
use Rattle.wi_audit.specs.private.Trials.{AreQuestions}
use Rattle.wi_audit.proofs.trying.tried_during.Given as goal

abbrev pub invariant-loop-i : goal.invariant-loop-i
invariant-loop-i l = record {
  tried : AreTried l.net l.given l.outage (take l.i l.policies) l.tried.items;
  questions : AreQuestions l.net l.given l.policies l.questions.items;
}
