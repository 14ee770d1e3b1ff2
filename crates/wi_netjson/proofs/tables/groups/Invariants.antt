use Rattle.std.proofs.Common.{◌≡◌, ◌+◌, ◌≤◌, [], drop}
use Rattle.serde_json.specs.View.{items_view}
use Rattle.wi_net.specs.Tables.{group_members}
use Rattle.wi_netjson.specs.Reading.{each}
use Rattle.wi_netjson.specs.Tables.{group_at}
use Rattle.wi_netjson.proofs.tables.groups.Given as goal

abbrev pub invariant-loop-j : goal.invariant-loop-j
invariant-loop-j l = record {
  walk : each (group_at l.builder.net l.router l.so_far l.i) l.groups.items l.j (items_view (drop l.j l.values)) ≡ each (group_at l.builder.net l.router l.so_far l.i) [] 0 (items_view l.values);
  counted : l.members ≡ l.so_far + group_members l.groups.items;
  few : l.members ≤ 400000;
}
