use Rattle.std.proofs.Common.{◌≡◌, ◌+◌, length}
use Rattle.serde_json.specs.View.{items_view}
use Rattle.wi_netjson.specs.Reading.{each}
use Rattle.wi_netjson.specs.Tables.{table_at}
use Rattle.wi_netjson.proofs.tables.each_table.Given as goal

abbrev pub invariant-loop-value : goal.invariant-loop-value
invariant-loop-value l = record {
  walk : each table_at l.builder l.i (items_view l.value-iterator.rest.items) ≡ each table_at l.fn.builder 0 (items_view l.fn.values.items);
  count : length l.builder.net.rows ≡ length l.fn.builder.net.rows + l.i;
  left : l.i + length l.value-iterator.rest.items ≡ length l.fn.values.items;
}
