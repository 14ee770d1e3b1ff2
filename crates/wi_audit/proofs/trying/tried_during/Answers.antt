use Rattle.std.proofs.Common.{length, refl, sym, subst, take, arith, ◌+◌}
use Rattle.std.proofs.lemmas.Option.{slice_get_read}
use Rattle.wi_audit.specs.Outages.{AreTried, IsTried}
use Rattle.wi_audit.specs.Questions.{IsQuestion}
use Rattle.wi_audit.proofs.Zips.{zip_at, zip_long, zip_more, zip_set}
use Rattle.wi_audit.proofs.trying.tried_during.Goals as goal

pub found_during-requires-clause-askable : goal.found_during-requires-clause-askable
found_during-requires-clause-askable c = c.requires.askable c.loop-i.i _ (slice_get_read c.args.policies.now (length c.args.policies.now) c.loop-i.i _ refl c.loop-i-test.true c.index-policies-i.is)

pub index_mut-requires : goal.index_mut-requires
index_mut-requires c =
    let long = zip_long (IsQuestion c.args.net.now c.args.given.now) c.args.policies.now c.loop-i.questions.items c.loop-i.invariant.questions in
    let less = c.loop-i-test.true in
    omega (arith, long, less)

pub found_during-requires-clause-question : goal.found_during-requires-clause-question
found_during-requires-clause-question c =
    zip_at (IsQuestion c.args.net.now c.args.given.now) c.args.policies.now c.loop-i.questions.items c.loop-i.i c.index-policies-i.result c.index_mut.result.now c.loop-i.invariant.questions c.loop-i-test.true c.index-policies-i.is c.index_mut.ensures.value

pub loop-i-preserved : goal.loop-i-preserved
loop-i-preserved c = record {
  tried = subst (λ tried. AreTried c.args.net.now c.args.given.now c.args.outage.now (take (c.loop-i.i + 1) c.args.policies.now) tried) (sym c.in_ok-push.ensures.items)
      (zip_more (IsTried c.args.net.now c.args.given.now c.args.outage.now) c.args.policies.now _ c.loop-i.i c.index-policies-i.result _ c.loop-i-test.true c.index-policies-i.is c.loop-i.invariant.tried c.in_ok-found_during.ensures.tried);
  questions = zip_set (IsQuestion c.args.net.now c.args.given.now) c.args.policies.now c.loop-i.questions.items c.loop-i.i c.index-policies-i.result _ c.loop-i.invariant.questions c.loop-i-test.true c.index-policies-i.is c.in_ok-found_during.ensures.question;
}
