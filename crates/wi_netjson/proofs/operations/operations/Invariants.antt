use Rattle.std.proofs.Common.{◌≡◌, [], drop}
use Rattle.serde_json.specs.View.{items_view}
use Rattle.wi_netjson.specs.Reading.{each}
use Rattle.wi_netjson.specs.Operations.{operation_at}
use Rattle.wi_netjson.proofs.operations.operations.Given as goal

abbrev pub invariant-loop-o : goal.invariant-loop-o
invariant-loop-o l = each (operation_at l.builder.net l.i l.j l.m) l.ops l.o (items_view (drop l.o l.values)) ≡ each (operation_at l.builder.net l.i l.j l.m) [] 0 (items_view l.values)
