use Rattle.std.proofs.Common.{◌≡◌, ◌<◌, drop, slice_get}
use Rattle.wi_net.specs.Tables.{members_of, group_members}
use Rattle.wi_net.proofs.tables.member_in.Given as goal

abbrev pub invariant-loop-group : goal.invariant-loop-group
invariant-loop-group l = record {
  within : l.left < group_members (drop l.group-index l.groups);
  same : slice_get (members_of (drop l.group-index l.groups)) l.left ≡ slice_get (members_of l.groups) l.number;
}
