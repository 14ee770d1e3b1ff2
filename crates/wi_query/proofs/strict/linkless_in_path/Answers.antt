-- Sign by sign.
use Rattle.std.proofs.Common.{refl}
use Rattle.std.proofs.lemmas.Option.{slice_get_read}
use Rattle.wi_query.proofs.Linkless.{sign_found, sign_passed}
use Rattle.wi_query.proofs.strict.linkless_in_path.Goals as goal

pub returns-in-Some : goal.returns-in-Some
returns-in-Some c =
    let there = slice_get_read c.args.signs.now _ c.loop-sign.sign-index c.sign-item.result refl c.loop-sign-test.true c.sign-item.is in
    sign_found c.args.net.now c.args.signs.now c.loop-sign.sign-index _ _ _ c.in-Some.at c.loop-sign.invariant there c.linkless_in_sign.ensures c.in-Some.is

pub loop-sign-preserved : goal.loop-sign-preserved
loop-sign-preserved c =
    let there = slice_get_read c.args.signs.now _ c.loop-sign.sign-index c.sign-item.result refl c.loop-sign-test.true c.sign-item.is in
    sign_passed c.args.net.now c.args.signs.now c.loop-sign.sign-index _ _ _ c.loop-sign.invariant there c.linkless_in_sign.ensures c.in_default.is
