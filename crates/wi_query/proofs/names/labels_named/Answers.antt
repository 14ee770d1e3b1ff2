-- The first that stands for nothing.
use Rattle.std.proofs.Common.{refl}
use Rattle.std.proofs.lemmas.Option.{slice_get_read}
use Rattle.std.proofs.lemmas.Result.{err_from_is_err_and}
use Rattle.wi_query.specs.private.Names.{label_meant}
use Rattle.wi_query.specs.Unknown.{unknown_label}
use Rattle.wi_query.proofs.Lists.{first_flat}
use Rattle.wi_query.proofs.Marks.{named_known}
use Rattle.wi_query.proofs.Firsts.{first_in}
use Rattle.wi_query.proofs.names.labels_named.Goals as goal

pub returns-in_err-label_named-clause-refused : goal.returns-in_err-label_named-clause-refused
returns-in_err-label_named-clause-refused c =
    let p = err_from_is_err_and c.from_residual.result c.from_residual.ensures.1 in
    let net = c.args.net.now in
    let there = slice_get_read c.args.names.now _ c.loop-name.name-index c.name-item.result refl c.loop-name-test.true c.name-item.is in
    rw (p.1, p.2) (first_in _ _ _ _ (first_flat (label_meant net) (unknown_label net) (named_known net) c.args.names.now _ _ c.loop-name.found.items c.loop-name.invariant there) c.in_err-label_named.ensures.refused)
