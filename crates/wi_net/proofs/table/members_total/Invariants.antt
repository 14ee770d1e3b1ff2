use Rattle.std.proofs.Common.{◌≡◌, ◌+◌, ◌≤◌, drop}
use Rattle.wi_net.specs.Builder.{members_rules}
use Rattle.wi_net.proofs.table.members_total.Given as goal

abbrev pub invariant-loop-member : goal.invariant-loop-member
invariant-loop-member l = record {
  walk : members_rules l.builder.net l.router l.members (drop l.member-index l.group) ≡ members_rules l.builder.net l.router l.so_far l.group;
  total : l.members ≡ l.so_far + l.member-index;
  few : l.members ≤ 400000;
}
