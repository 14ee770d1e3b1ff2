use Rattle.wi_outage.proofs.Keeping.{down_kept}
use Rattle.wi_audit.proofs.Tries.{searched}
use Rattle.wi_audit.proofs.trying.found_by_search.Goals as goal

pub ask_during-found-requires : goal.ask_during-found-requires
ask_during-found-requires c =
    rw c.of-problem.ensures (down_kept c.args.net.now c.in_ok-query.query.bounds c.args.outage.now c.in_ok-query.ensures.kept.0 c.requires.whole (c.requires.asked c.in_ok-query.query c.in_ok-query.ensures.asked))

pub returns : goal.returns
returns c =
    searched c.ask_during-found.result c.args.net.now c.args.given.now c.args.outage.now c.args.policy.now c.args.settled.now _ c.in_ok-query.query c.of-problem.result c.in_ok-query.ensures.asked (rw c.new-vector.ensures at c.of-problem.ensures) c.keeps.ensures.problem c.ask_during-found.ensures.found c.ask_during-found.ensures.settled
