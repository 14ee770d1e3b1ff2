-- They are the next two rows.
use Rattle.std.proofs.Common.{ap}
use Rattle.wi_gen.specs.private.Rows.{middle_row}
use Rattle.wi_gen.proofs.rows.add_middle_rows.Goals as goal
use Rattle.wi_gen.proofs.RowLemmas.{first_allowed, second_allowed, second_added}
use Rattle.wi_gen.proofs.BlockLemmas.{rows_are_few}
use Rattle.wi_gen.proofs.KnownLemmas.{middle_known, middle_known_aside}
use Rattle.wi_gen.proofs.LeftLemmas.{after_middle}

pub add_middle_row-requires-clause-rules : goal.add_middle_row-requires-clause-rules
add_middle_row-requires-clause-rules c =
    first_allowed c.args.ring.now _ _ _ _ _ (rows_are_few c.args.ring.now c.requires.left.bounds) c.requires.left
    (after_middle c.args.ring.now c.args.i c.requires.last)
    (ap (middle_row c.args.ring.now c.args.i) c.forward.ensures)
    (middle_known c.args.ring.now c.args.i c.requires.left.bounds c.requires.first c.requires.last)

pub add_middle_row-requires-2-clause-rules : goal.add_middle_row-requires-2-clause-rules
add_middle_row-requires-2-clause-rules c =
    second_allowed c.args.ring.now _ _ _ _ _ _ _ _ (rows_are_few c.args.ring.now c.requires.left.bounds) c.requires.left
    (after_middle c.args.ring.now c.args.i c.requires.last)
    (ap (middle_row c.args.ring.now c.args.i) c.forward.ensures) c.in_ok-add_middle_row.ensures
    (ap (middle_row c.args.ring.now c.args.i) c.backward.ensures)
    (middle_known_aside c.args.ring.now c.args.i c.requires.left.bounds c.requires.first c.requires.last)

pub returns : goal.returns
returns c =
    second_added _ c.args.ring.now _ _ _ _ _ _ _ _ _ c.requires.left
    (after_middle c.args.ring.now c.args.i c.requires.last)
    (ap (middle_row c.args.ring.now c.args.i) c.forward.ensures) c.in_ok-add_middle_row.ensures
    (ap (middle_row c.args.ring.now c.args.i) c.backward.ensures) c.add_middle_row-2.ensures
