use Rattle.wi_settle.proofs.OutageLaws.{known_is, survived_is}
use Rattle.wi_settle.proofs.lookup.settled_for.Goals as goal

pub returns-then-is_within-clause-found : goal.returns-then-is_within-clause-found
returns-then-is_within-clause-found c problem p same_net same s o = known_is problem c.args.single c.args.outage.now c.args.bounds.now c.args.settled.now c.own.result c.is_within.result c.is_within.ensures c.if-is_within.true c.own.ensures p same s o

pub returns-then-survives-clause-found : goal.returns-then-survives-clause-found
returns-then-survives-clause-found c problem p same_net same s o =
    survived_is problem c.args.single c.args.outage.now c.args.net.now c.args.bounds.now c.args.settled.now c.survives.result c.survives.ensures c.if-survives.true p same_net same s o
