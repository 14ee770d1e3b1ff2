use Rattle.std.proofs.Common.{rules}
use Rattle.wi_protect.proofs.rows.add_via.Goals as goal

pub add_hop-requires : goal.add_hop-requires
add_hop-requires c = search rules
