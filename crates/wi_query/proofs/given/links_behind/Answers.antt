-- The first name stands behind the front.
use Rattle.wi_query.proofs.Giving.{first_far, first_behind}
use Rattle.wi_query.proofs.given.links_behind.Goals as goal

pub counted-requires : goal.counted-requires
counted-requires c = first_far c.args.net.now c.args.known.now c.in-Err.fault c.requires c.in-Err.ensures.refused

pub returns-in-Err-clause-refused : goal.returns-in-Err-clause-refused
returns-in-Err-clause-refused c = first_behind c.args.net.now c.args.known.now c.in-Err.fault _ c.counted.ensures c.requires c.in-Err.ensures.refused
