use Rattle.std.proofs.Common.{rules}
use Rattle.wi_protect.proofs.rows.add_path.Goals as goal

pub add_row-requires : goal.add_row-requires
add_row-requires c = search rules
