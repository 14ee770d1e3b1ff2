use Rattle.std.proofs.Common.{◌≡◌, true, [], drop}
use Rattle.std.specs.List.{list_all}
use Rattle.serde_json.specs.View.{items_view}
use Rattle.wi_net.specs.Net.{is_link}
use Rattle.wi_planjson.specs.Reading.{each}
use Rattle.wi_planjson.specs.Names.{link_at}
use Rattle.wi_planjson.specs.private.Places.{place_in}
use Rattle.wi_planjson.proofs.routes.links_in.Given as goal

abbrev pub invariant-loop-j : goal.invariant-loop-j
invariant-loop-j l = record {
  walk : each (link_at l.net (place_in l.route)) l.links.items l.j (items_view (drop l.j l.values)) ≡ each (link_at l.net (place_in l.route)) [] 0 (items_view l.values);
  known : list_all (is_link l.net) l.links.items ≡ true;
}
