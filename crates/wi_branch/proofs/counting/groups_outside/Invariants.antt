use Rattle.std.proofs.Common.{◌≡◌, ◌+◌, ◌≤◌, drop}
use Rattle.wi_net.specs.LinkSet.{outside}
use Rattle.wi_net.specs.Net.{all_links, risk_count}
use Rattle.wi_branch.specs.private.Counting.{groups_besides}
use Rattle.wi_branch.proofs.counting.groups_outside.Given as goal

abbrev pub invariant-loop-e : goal.invariant-loop-e
invariant-loop-e l = record {
  counted : l.count + risk_count l.net (outside (drop l.e (all_links l.net)) l.known) ≡ groups_besides l.net l.known;
  few : l.count ≤ l.e;
}
