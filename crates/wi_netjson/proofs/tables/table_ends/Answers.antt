use Rattle.std.proofs.Common.{rules}
use Rattle.wi_netjson.specs.Tables.{table_ends}
use Rattle.wi_netjson.proofs.tables.table_ends.Goals as goal

pub returns : goal.returns
unfolding table_ends
returns c = search rules
