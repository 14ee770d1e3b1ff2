-- The signs' tree is read.
use Rattle.std.proofs.Common.{refl, arith}
use Rattle.std.proofs.lemmas.Option.{slice_get_read}
use Rattle.wi_query.specs.Sets.{holds}
use Rattle.wi_query.specs.Unknown.{unknown_in_sign}
use Rattle.wi_query.proofs.Lists.{flat_at, flat_passed}
use Rattle.wi_query.proofs.Firsts.{first_in}
use Rattle.wi_query.proofs.Trees.{sign_read, regex_is_read, something_is_read, few_positions}
use Rattle.wi_query.proofs.expression.regex_of.Goals as goal

pub returns-in-Err-clause-refused : goal.returns-in-Err-clause-refused
returns-in-Err-clause-refused g c =
    let there = slice_get_read c.args.signs.now _ c.loop-sign.sign-index c.sign-item.result refl c.loop-sign-test.true c.sign-item.is in
    first_in _ _ _ _ (flat_at (unknown_in_sign (g.A.Meant.unknown c.args.net.now)) c.args.signs.now c.loop-sign.sign-index c.sign-item.result _ c.loop-sign.invariant.known there) c.in-Err.ensures.refused

pub loop-sign-preserved : goal.loop-sign-preserved
loop-sign-preserved g c =
    let there = slice_get_read c.args.signs.now _ c.loop-sign.sign-index c.sign-item.result refl c.loop-sign-test.true c.sign-item.is in
    record {
      read = sign_read (g.A.Meant.marks c.args.net.now) c.args.signs.now c.loop-sign.sign-index c.sign-item.result c.in-Ok.known c.loop-sign.reading c.in_ok-reading-in-Ok.reading
          c.loop-sign.invariant.read there c.in-Ok.ensures.made c.in_ok-reading-in-Ok.ensures;
      known = flat_passed (unknown_in_sign (g.A.Meant.unknown c.args.net.now)) c.args.signs.now c.loop-sign.sign-index c.sign-item.result _ c.loop-sign.invariant.known there c.in-Ok.ensures.known;
    }

pub unreachable-requires : goal.unreachable-requires
unreachable-requires g c =
    something_is_read (g.A.Meant.marks c.args.net.now) c.args.signs.now c.requires c.loop-sign.sign-index c.loop-sign.reading c.in_ok-regex.field-0
    c.loop-sign.invariant.read c.loop-sign-test.false c.in_ok-regex.ensures c.in-None.is

pub returns-clause-read : goal.returns-clause-read
returns-clause-read g c =
    regex_is_read (g.A.Meant.marks c.args.net.now) c.args.signs.now c.requires c.loop-sign.sign-index c.loop-sign.reading c.in_ok-regex.field-0 c.in-Some.regex
    c.loop-sign.invariant.read c.loop-sign-test.false c.in_ok-regex.ensures c.in-Some.is

pub returns-clause-small : goal.returns-clause-small
returns-clause-small g c =
    let read = regex_is_read (g.A.Meant.marks c.args.net.now) c.args.signs.now c.requires c.loop-sign.sign-index c.loop-sign.reading c.in_ok-regex.field-0 c.in-Some.regex
    c.loop-sign.invariant.read c.loop-sign-test.false c.in_ok-regex.ensures c.in-Some.is in
    omega (arith, few_positions (λ a x. holds (g.A.Meant.marks c.args.net.now a) x) c.args.signs.now c.in-Some.regex read)
