-- They are the next two rows.
use Rattle.std.proofs.Common.{◌-◌, ◌∙◌, ap, refl}
use Rattle.wi_gen.specs.Ring.{forward, backward}
use Rattle.wi_gen.specs.private.Rows.{last_row}
use Rattle.wi_gen.proofs.rows.add_last_rows.Goals as goal
use Rattle.wi_gen.proofs.RowLemmas.{first_allowed, second_allowed, second_added}
use Rattle.wi_gen.proofs.BlockLemmas.{rows_are_few}
use Rattle.wi_gen.proofs.KnownLemmas.{last_known, last_known_aside}

pub add_last_row-requires : goal.add_last_row-requires
add_last_row-requires c =
    first_allowed c.args.ring.now _ _ _ _ _ (rows_are_few c.args.ring.now c.requires.bounds) c.requires refl
    (ap (last_row c.args.ring.now) (c.forward.ensures ∙ ap (λ m. forward c.args.ring.now (m - 1)) c.path-last.ensures))
    (last_known c.args.ring.now c.requires.bounds)

pub add_last_row-requires-2 : goal.add_last_row-requires-2
add_last_row-requires-2 c =
    second_allowed c.args.ring.now _ _ _ _ _ _ _ _ (rows_are_few c.args.ring.now c.requires.bounds) c.requires refl
    (ap (last_row c.args.ring.now) (c.forward.ensures ∙ ap (λ m. forward c.args.ring.now (m - 1)) c.path-last.ensures))
    c.in_ok-add_last_row.ensures
    (ap (last_row c.args.ring.now) (c.backward.ensures ∙ ap (backward c.args.ring.now) c.path-last.ensures))
    (last_known_aside c.args.ring.now c.requires.bounds)

pub returns : goal.returns
returns c =
    second_added _ c.args.ring.now _ _ _ _ _ _ _ _ _ c.requires refl
    (ap (last_row c.args.ring.now) (c.forward.ensures ∙ ap (λ m. forward c.args.ring.now (m - 1)) c.path-last.ensures))
    c.in_ok-add_last_row.ensures
    (ap (last_row c.args.ring.now) (c.backward.ensures ∙ ap (backward c.args.ring.now) c.path-last.ensures)) c.add_last_row-2.ensures
