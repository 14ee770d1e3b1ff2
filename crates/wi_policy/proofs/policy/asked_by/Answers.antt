use Rattle.std.proofs.Common.{◌≡◌, string_bytes}
use Rattle.std.proofs.lemmas.Result.{IfOk-weaker}
use Rattle.wi_world.specs.Moves.{AreBounds}
use Rattle.wi_query.specs.Meaning.{MayDropAny}
use Rattle.wi_policy.specs.Policies.{IsAsked}
use Rattle.wi_policy.specs.private.Reading.{within_given}
use Rattle.wi_policy.proofs.Asking.{is_asked, keeps_bounds}
use Rattle.wi_policy.proofs.policy.asked_by.Goals as goal

pub returns-in-Ok-clause-asked : goal.returns-in-Ok-clause-asked
returns-in-Ok-clause-asked c =
    IfOk-weaker c.within.result (λ asked. asked ≡ within_given c.args.given.now c.in-Ok.query) (IsAsked c.args.net.now c.args.given.now (string_bytes c.args.policy.now.query))
    (λ asked. is_asked _ _ _ c.as_str.result.now c.requires.askable c.in-Ok.query asked c.as_str.ensures.value c.in-Ok.ensures.read) c.within.ensures

pub returns-in-Ok-clause-kept : goal.returns-in-Ok-clause-kept
returns-in-Ok-clause-kept c =
    IfOk-weaker c.within.result (λ asked. asked ≡ within_given c.args.given.now c.in-Ok.query) (λ asked. AreBounds c.args.net.now asked.bounds × MayDropAny c.args.net.now asked)
    (λ asked. keeps_bounds _ _ _ c.as_str.result.now c.requires.askable c.in-Ok.query asked c.requires.bounds c.as_str.ensures.value c.in-Ok.ensures.read) c.within.ensures
