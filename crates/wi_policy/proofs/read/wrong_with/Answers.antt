use Rattle.std.proofs.Common.{◌≡◌, option_map}
use Rattle.std.proofs.lemmas.Result.{IfOk-weaker}
use Rattle.wi_policy.specs.declared.policy.LineFault.TheVariants.{DownAndUp}
use Rattle.wi_policy.specs.Policies.{joined, torn}
use Rattle.wi_policy.specs.private.Reading.{IsWrong}
use Rattle.wi_policy.proofs.Judging.{torn_wrong}
use Rattle.wi_policy.proofs.read.wrong_with.Goals as goal

pub returns-in-Ok : goal.returns-in-Ok
returns-in-Ok c =
    IfOk-weaker c.torn_by.result (λ wrong. wrong ≡ option_map DownAndUp (torn (joined c.in-Ok.query.bounds c.args.given.now))) (IsWrong c.args.net.now c.args.given.now c.args.text.now)
    (λ wrong. torn_wrong _ _ _ c.in-Ok.query wrong c.in-Ok.ensures.read) c.torn_by.ensures
