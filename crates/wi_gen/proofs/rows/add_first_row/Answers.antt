-- It is the first of all rows.
use Rattle.std.proofs.Common.{refl}
use Rattle.wi_gen.proofs.rows.add_first_row.Goals as goal
use Rattle.wi_gen.proofs.RowLemmas.{first_allowed, first_added, row_is}
use Rattle.wi_gen.proofs.BlockLemmas.{rows_are_few}
use Rattle.wi_gen.proofs.KnownLemmas.{first_known}
use Rattle.wi_gen.proofs.LeftLemmas.{after_first}

pub put_row-requires : goal.put_row-requires
put_row-requires c =
    first_allowed c.args.ring.now _ _ _ _ _ (rows_are_few c.args.ring.now c.requires.bounds) c.requires (after_first c.args.ring.now)
    (row_is _ _ _ _ _ _ refl c.destination.ensures c.in_ok-groups.ensures) (first_known c.args.ring.now c.requires.bounds)

pub returns : goal.returns
returns c =
    first_added _ c.args.ring.now _ _ _ _ _ _ c.requires (after_first c.args.ring.now)
    (row_is _ _ _ _ _ _ refl c.destination.ensures c.in_ok-groups.ensures) c.put_row.ensures
