use Rattle.std.proofs.Common.{refl}
use Rattle.wi_check.proofs.OwnRows.{are_own}
use Rattle.wi_check.proofs.rows.own_rows.Goals as goal

pub returns : goal.returns
returns c = are_own c.args.rows _ c.args.head refl c.rows_at.ensures c.requires
