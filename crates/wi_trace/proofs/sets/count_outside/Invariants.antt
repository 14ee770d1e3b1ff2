use Rattle.std.proofs.Common.{◌≡◌, ◌+◌, ◌≤◌, drop}
use Rattle.wi_net.specs.LinkSet.{outside}
use Rattle.wi_net.specs.Net.{risk_count}
use Rattle.wi_trace.proofs.sets.count_outside.Given as goal

abbrev pub invariant-loop-i : goal.invariant-loop-i
invariant-loop-i l = record {
  counted : l.count + risk_count l.net (outside (drop l.i l.set) l.known) ≡ risk_count l.net (outside l.set l.known);
  few : l.count ≤ l.i;
}
