-- By its ends, where they are known.
use Rattle.std.proofs.Common.{refl}
use Rattle.wi_query.proofs.Linkless.{known_linkless, unknown_linkless}
use Rattle.wi_query.proofs.strict.is_linkless.Goals as goal

pub returns-in-Some : goal.returns-in-Some
returns-in-Some c = known_linkless c.args.net.now c.args.pair.now c.in-Some.ends _ _ _ c.ends_known.ensures.found c.in-Some.is c.has_link.ensures refl

pub returns-in-None : goal.returns-in-None
returns-in-None c = unknown_linkless c.args.net.now c.args.pair.now _ c.ends_known.ensures.found c.in-None.is
