use Rattle.wi_audit.specs.Texts.{IsAudited}
use Rattle.wi_audit.specs.private.Puts.{IsUnderWay}
use Rattle.wi_audit.proofs.puts.audit.Given as goal

abbrev pub invariant-loop-i : goal.invariant-loop-i
invariant-loop-i g l = IsUnderWay (IsAudited l.net l.given) l.policies l.i l.worst (g.O.Sink.seen l.initial.out) (g.O.Sink.seen l.out)
