-- Part by part.
use Rattle.wi_query.proofs.Linkless.{path_first, down_first, up_last}
use Rattle.wi_query.proofs.strict.first_linkless.Goals as goal

pub returns-in-Some : goal.returns-in-Some
returns-in-Some c = path_first c.args.net.now c.args.written.now _ c.as_slice.ensures _ c.linkless_in_path.ensures c.in-Some.at c.in-Some.is

pub returns-in-Some-linkless_in_known : goal.returns-in-Some-linkless_in_known
returns-in-Some-linkless_in_known c =
    down_first c.args.net.now c.args.written.now _ c.as_slice.ensures _ c.linkless_in_path.ensures _ c.in-Some-linkless_in_known.at c.in_default.is c.linkless_in_known.ensures c.in-Some-linkless_in_known.is

pub returns : goal.returns
returns c =
    up_last c.args.net.now c.args.written.now _ c.as_slice.ensures _ c.linkless_in_path.ensures _ _ c.in_default.is c.linkless_in_known.ensures c.in_default-linkless_in_known.is c.linkless_in_known-2.ensures
