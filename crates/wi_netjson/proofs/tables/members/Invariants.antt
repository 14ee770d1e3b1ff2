use Rattle.std.proofs.Common.{◌≡◌, ◌+◌, ◌≤◌, [], drop, length}
use Rattle.serde_json.specs.View.{items_view}
use Rattle.wi_netjson.specs.Reading.{each}
use Rattle.wi_netjson.specs.Tables.{member_at}
use Rattle.wi_netjson.proofs.tables.members.Given as goal

abbrev pub invariant-loop-m : goal.invariant-loop-m
invariant-loop-m l = record {
  walk : each (member_at l.builder.net l.router l.so_far l.i l.j) l.members.items l.m (items_view (drop l.m l.values)) ≡ each (member_at l.builder.net l.router l.so_far l.i l.j) [] 0 (items_view l.values);
  few : l.so_far + length l.members.items ≤ 400000;
}
