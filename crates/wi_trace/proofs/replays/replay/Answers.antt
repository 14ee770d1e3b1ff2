use Rattle.wi_trace.proofs.ReplayLemmas.{is_replayed, is_refused}
use Rattle.wi_trace.proofs.replays.replay.Goals as goal

pub returns-clause-trace : goal.returns-clause-trace
returns-clause-trace c = is_replayed c.args.net.now c.args.fails.now c.args.run.now c.replayed.result (rw c.in_ok-fault.ensures at c.replayed.ensures.none) c.replayed.ensures.trace

pub returns-clause-refused : goal.returns-clause-refused
returns-clause-refused c = is_refused c.args.net.now c.args.fails.now c.args.run.now c.replayed.result (rw c.in_ok-fault.ensures at c.replayed.ensures.fault)
