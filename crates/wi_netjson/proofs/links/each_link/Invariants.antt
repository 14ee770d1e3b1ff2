use Rattle.std.proofs.Common.{◌≡◌, ◌+◌, drop, length}
use Rattle.serde_json.specs.View.{items_view}
use Rattle.wi_netjson.specs.Reading.{each}
use Rattle.wi_netjson.specs.Links.{link_at}
use Rattle.wi_netjson.proofs.links.each_link.Given as goal

abbrev pub invariant-loop-i : goal.invariant-loop-i
invariant-loop-i l = record {
  walk : each (link_at l.has_groups) l.builder l.i (items_view (drop l.i l.values)) ≡ each (link_at l.has_groups) l.fn.builder 0 (items_view l.values);
  count : length l.builder.net.links ≡ length l.fn.builder.net.links + l.i;
}
