use Rattle.std.proofs.Common.{rules}
use Rattle.wi_base.proofs.memory_sink.MemorySinkSink.put.Goals as goal

pub returns-in-None-clause-ok : goal.returns-in-None-clause-ok
returns-in-None-clause-ok c = search rules

pub returns-in_ok-append-in-Some-clause-failed : goal.returns-in_ok-append-in-Some-clause-failed
returns-in_ok-append-in-Some-clause-failed c = search rules

pub returns-in_ok-append-in-Some-clause-faults : goal.returns-in_ok-append-in-Some-clause-faults
returns-in_ok-append-in-Some-clause-faults c = search rules
