use Rattle.std.proofs.Common.{◌≡◌, ◌≤◌, Some, length, slice_get, arith}
use Rattle.wi_netjson.specs.Written.{row_data}
use Rattle.wi_netjson.proofs.WrittenLemmas.{made_more, made_all, row_of, row_found, row_in}
use Rattle.wi_netjson.proofs.written.tables_value.Goals as goal

pub row_value-requires : goal.row_value-requires
row_value-requires c =
    let at : slice_get c.args.network.now.rows c.loop-i.i ≡ Some (row_of c.row.result.0 c.row.result.1 c.entry-groups.result.now) = row_found c.args.network.now c.loop-i.i c.row.result.0 c.row.result.1 c.entry-groups.result.now c.keeps.ensures c.row.ensures c.entry-groups.ensures in
    row_in c.args.network.now c.loop-i.i (row_of c.row.result.0 c.row.result.1 c.entry-groups.result.now) c.keeps.ensures at

pub loop-i-preserved : goal.loop-i-preserved
loop-i-preserved c =
    let at : slice_get c.args.network.now.rows c.loop-i.i ≡ Some (row_of c.row.result.0 c.row.result.1 c.entry-groups.result.now) = row_found c.args.network.now c.loop-i.i c.row.result.0 c.row.result.1 c.entry-groups.result.now c.keeps.ensures c.row.ensures c.entry-groups.ensures in
    made_more (row_data c.args.network.now) c.args.network.now.rows c.loop-i.values.items c.push.new.self.items c.in_ok-row_value.field-0 (row_of c.row.result.0 c.row.result.1 c.entry-groups.result.now) c.loop-i.i c.loop-i.invariant c.in_ok-push.ensures.items at c.in_ok-row_value.ensures

pub returns : goal.returns
returns c =
    let done : length c.args.network.now.rows ≤ c.loop-i.i = omega arith in
    made_all (row_data c.args.network.now) c.args.network.now.rows c.loop-i.values c.loop-i.i done c.loop-i.invariant
