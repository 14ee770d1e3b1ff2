use Rattle.wi_audit.specs.Outages.{IsOutageTested}
use Rattle.wi_audit.specs.private.Puts.{IsUnderWay}
use Rattle.wi_audit.specs.private.Trials.{AreQuestions}
use Rattle.wi_audit.proofs.outage_puts.put_each.Given as goal

abbrev pub invariant-loop-i : goal.invariant-loop-i
invariant-loop-i g l = record {
  way : IsUnderWay (IsOutageTested l.net l.given l.policies) l.outages l.i l.worst (g.O.Sink.seen l.initial.out) (g.O.Sink.seen l.out);
  questions : AreQuestions l.net l.given l.policies l.questions.items;
}
