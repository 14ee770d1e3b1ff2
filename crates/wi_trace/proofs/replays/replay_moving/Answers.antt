use Rattle.wi_trace.proofs.ReplayLemmas.{moves, moves_not}
use Rattle.wi_trace.proofs.replays.replay_moving.Goals as goal

pub returns-clause-trace : goal.returns-clause-trace
returns-clause-trace c = moves c.args.net.now c.args.bounds.now c.args.run.now c.replayed.result c.keeps.ensures c.requires (rw c.in_ok-fault.ensures at c.replayed.ensures.none) c.replayed.ensures.trace

pub returns-clause-refused : goal.returns-clause-refused
returns-clause-refused c = moves_not c.args.net.now c.args.bounds.now c.args.run.now c.replayed.result c.keeps.ensures c.requires (rw c.in_ok-fault.ensures at c.replayed.ensures.fault)
