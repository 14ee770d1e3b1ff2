use Rattle.std.proofs.Common.{◌≡◌, ◌+◌, true, drop, length}
use Rattle.std.specs.List.{list_all}
use Rattle.serde_json.specs.View.{items_view}
use Rattle.wi_net.specs.Network.{is_no_later}
use Rattle.wi_netjson.specs.Reading.{each}
use Rattle.wi_netjson.specs.Labels.{label_at}
use Rattle.wi_netjson.proofs.labels.each_label.Given as goal

abbrev pub invariant-loop-i : goal.invariant-loop-i
invariant-loop-i l = record {
  walk : each (label_at l.class) l.builder l.i (items_view (drop l.i l.values)) ≡ each (label_at l.class) l.fn.builder 0 (items_view l.values);
  count : length l.builder.net.labels ≡ length l.fn.builder.net.labels + l.i;
  in_order : list_all (λ c. is_no_later c l.class) l.builder.net.classes ≡ true;
}
