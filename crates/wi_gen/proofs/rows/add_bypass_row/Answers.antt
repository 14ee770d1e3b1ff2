-- It is the next row.
use Rattle.std.proofs.Common.{◌∙◌, ap}
use Rattle.wi_labels.specs.Header.{Entry}
use Rattle.wi_gen.specs.Ring.{backward}
use Rattle.wi_gen.proofs.rows.add_bypass_row.Goals as goal
use Rattle.wi_gen.proofs.RowLemmas.{first_allowed, first_added, row_is}
use Rattle.wi_gen.proofs.BlockLemmas.{rows_are_few}
use Rattle.wi_gen.proofs.KnownLemmas.{bypass_row_known}
use Rattle.wi_gen.proofs.LeftLemmas.{next_place}

pub put_row-requires : goal.put_row-requires
put_row-requires c =
    first_allowed c.args.ring.now _ _ _ _ _ (rows_are_few c.args.ring.now c.requires.left.bounds) c.requires.left
    (next_place c.args.ring.now c.args.i c.args.d c.requires.last)
    (row_is _ _ _ _ _ _ (c.backward-arrival.ensures ∙ ap (backward c.args.ring.now) c.back.ensures)
    (ap (λ (l : Entry). l.0) c.bypass.ensures) c.in_ok-groups.ensures)
    (bypass_row_known c.args.ring.now c.args.i c.args.d c.requires.left.bounds c.requires.within c.requires.last)

pub returns : goal.returns
returns c =
    first_added _ c.args.ring.now _ _ _ _ _ _ c.requires.left (next_place c.args.ring.now c.args.i c.args.d c.requires.last)
    (row_is _ _ _ _ _ _ (c.backward-arrival.ensures ∙ ap (backward c.args.ring.now) c.back.ensures)
    (ap (λ (l : Entry). l.0) c.bypass.ensures) c.in_ok-groups.ensures)
    c.put_row.ensures
