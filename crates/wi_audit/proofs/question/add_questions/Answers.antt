use Rattle.std.proofs.Common.{◌+◌, length, refl, sym, subst, take}
use Rattle.std.proofs.lemmas.List.{take_all}
use Rattle.std.proofs.lemmas.Option.{slice_get_read}
use Rattle.wi_audit.specs.Questions.{IsQuestion}
use Rattle.wi_audit.specs.private.Trials.{AreQuestions}
use Rattle.wi_audit.proofs.Zips.{zip_more}
use Rattle.wi_audit.proofs.question.add_questions.Goals as goal

pub loop-policy-init : goal.loop-policy-init
loop-policy-init c = subst (λ questions. AreQuestions c.args.net.now c.args.given.now (take 0 c.args.policies.now) questions) (sym c.requires.none) tt

pub question_of-requires-clause-askable : goal.question_of-requires-clause-askable
question_of-requires-clause-askable c = c.requires.askable c.loop-policy.policy-index _ (slice_get_read c.args.policies.now (length c.args.policies.now) c.loop-policy.policy-index _ refl c.loop-policy-test.true c.policy-item.is)

pub loop-policy-preserved : goal.loop-policy-preserved
loop-policy-preserved c =
    subst (λ questions. AreQuestions c.args.net.now c.args.given.now (take (c.loop-policy.policy-index + 1) c.args.policies.now) questions) (sym c.in_ok-push.ensures.items)
    (zip_more (IsQuestion c.args.net.now c.args.given.now) c.args.policies.now _ c.loop-policy.policy-index _ _ c.loop-policy-test.true c.policy-item.is c.loop-policy.invariant c.in_ok-question_of.ensures)

pub returns : goal.returns
returns c = subst (λ policies. AreQuestions c.args.net.now c.args.given.now policies c.loop-policy.questions.items) (take_all c.loop-policy.policy-index c.args.policies.now c.loop-policy-test.false) c.loop-policy.invariant
