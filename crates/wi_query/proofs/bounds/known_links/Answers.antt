-- The links of the list, widened.
use Rattle.wi_query.proofs.Known.{links_known, known_names}
use Rattle.wi_query.proofs.bounds.known_links.Goals as goal

pub returns-in_ok-widen-in-Some-clause-found : goal.returns-in_ok-widen-in-Some-clause-found
returns-in_ok-widen-in-Some-clause-found c =
    links_known c.args.net.now c.args.known.now c.in-Some.known c.as_slice.result.now c.in_ok-pairs-in-Some.pairs.items c.as_slice-in-Some.result.now c.in_ok-links-in-Some.links _
    c.in-Some.is c.as_slice.ensures c.in_ok-pairs-in-Some.ensures.found c.as_slice-in-Some.ensures.value c.in_ok-links-in-Some.ensures c.in_ok-widen-in-Some.ensures

pub returns-in_ok-widen-in-Some-clause-known : goal.returns-in_ok-widen-in-Some-clause-known
returns-in_ok-widen-in-Some-clause-known c =
    known_names c.args.net.now c.args.known.now c.in-Some.known c.as_slice.result.now c.in_ok-pairs-in-Some.pairs.items c.in-Some.is c.as_slice.ensures c.in_ok-pairs-in-Some.ensures.found
