use Rattle.std.proofs.Common.{take}
use Rattle.wi_audit.proofs.question.add_questions.Given as goal
use Rattle.wi_audit.specs.private.Trials.{AreQuestions}

abbrev pub invariant-loop-policy : goal.invariant-loop-policy
invariant-loop-policy l = AreQuestions l.net l.given (take l.policy-index l.policies) l.questions.items
