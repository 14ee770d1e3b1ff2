use Rattle.std.proofs.Common.{◌≡◌, ◌-◌, ◌^◌, Some, vec_len, slice_get, reverse}
use Rattle.wi_witness.proofs.Unfolds.{Unfolds}
use Rattle.wi_witness.proofs.unfolding.run_of_row.Given as goal

abbrev pub invariant-rules : goal.invariant-rules
invariant-rules g l = (row : _) → slice_get l.rows l.place ≡ Some row → Unfolds g.W.Domain.scale g.W.Domain.components l.rows row (reverse l.todo.items) l.ids.items

abbrev pub decreases-rules : goal.decreases-rules
decreases-rules g l = 2 ^ 64 - vec_len l.ids
