use Rattle.std.proofs.Common.{◌≡◌, ◌+◌, ◌≤◌, drop}
use Rattle.wi_net.specs.Net.{all_links}
use Rattle.wi_outage.proofs.Counting.{besides}
use Rattle.wi_settle.proofs.free.free_groups.Given as goal

abbrev pub invariant-loop-e : goal.invariant-loop-e
invariant-loop-e l = record {
  counted : l.count + besides l.net l.bounds.up l.bounds.down (drop l.e (all_links l.net)) ≡ besides l.net l.bounds.up l.bounds.down (all_links l.net);
  few : l.count ≤ l.e;
}
