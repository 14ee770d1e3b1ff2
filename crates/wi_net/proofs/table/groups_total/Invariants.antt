use Rattle.std.proofs.Common.{◌≡◌, ◌+◌, ◌≤◌, drop, take}
use Rattle.wi_net.specs.Tables.{group_members}
use Rattle.wi_net.specs.Builder.{groups_rules}
use Rattle.wi_net.proofs.table.groups_total.Given as goal

abbrev pub invariant-loop-group : goal.invariant-loop-group
invariant-loop-group l = record {
  walk : groups_rules l.builder.net l.router l.members (drop l.group-index l.groups) ≡ groups_rules l.builder.net l.router l.so_far l.groups;
  total : l.members ≡ l.so_far + group_members (take l.group-index l.groups);
  few : l.members ≤ 400000;
}
