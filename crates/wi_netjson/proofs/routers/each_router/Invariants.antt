use Rattle.std.proofs.Common.{◌≡◌, ◌+◌, drop, length}
use Rattle.serde_json.specs.View.{items_view}
use Rattle.wi_netjson.specs.Reading.{each}
use Rattle.wi_netjson.specs.Routers.{router_at}
use Rattle.wi_netjson.proofs.routers.each_router.Given as goal

abbrev pub invariant-loop-i : goal.invariant-loop-i
invariant-loop-i l = record {
  walk : each router_at l.builder l.i (items_view (drop l.i l.values)) ≡ each router_at l.fn.builder 0 (items_view l.values);
  count : length l.builder.net.routers ≡ length l.fn.builder.net.routers + l.i;
  classes : l.builder.net.classes ≡ l.fn.builder.net.classes;
}
