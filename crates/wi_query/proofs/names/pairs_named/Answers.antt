-- The first that stands for nothing.
use Rattle.std.proofs.Common.{refl}
use Rattle.std.proofs.lemmas.Option.{slice_get_read}
use Rattle.std.proofs.lemmas.Result.{err_from_is_err_and}
use Rattle.wi_query.specs.private.Names.{ends_meant}
use Rattle.wi_query.specs.Unknown.{unknown_in_pair}
use Rattle.wi_query.proofs.Lists.{first_flat}
use Rattle.wi_query.proofs.Marks.{pair_known}
use Rattle.wi_query.proofs.Firsts.{first_in}
use Rattle.wi_query.proofs.names.pairs_named.Goals as goal

pub returns-in_err-ends_of-clause-refused : goal.returns-in_err-ends_of-clause-refused
returns-in_err-ends_of-clause-refused c =
    let p = err_from_is_err_and c.from_residual.result c.from_residual.ensures.1 in
    let net = c.args.net.now in
    let there = slice_get_read c.args.pairs.now _ c.loop-pair.pair-index c.pair-item.result refl c.loop-pair-test.true c.pair-item.is in
    rw (p.1, p.2) (first_in _ _ _ _ (first_flat (ends_meant net) (unknown_in_pair net) (pair_known net) c.args.pairs.now _ _ c.loop-pair.found.items c.loop-pair.invariant there) c.in_err-ends_of.ensures.refused)
