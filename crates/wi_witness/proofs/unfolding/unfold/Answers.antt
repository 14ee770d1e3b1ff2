use Rattle.std.proofs.Common.{◌≡◌, ℕ, ◌-◌, ◌<◌, ◌≤◌, Option, Some, None, IfSome, length, slice_get, arith, sym, subst, refl}
use Rattle.std.proofs.lemmas.Option.{slice_get_read}
use Rattle.wi_weight.specs.Kinds.{pair_scale, effort_scale}
use Rattle.wi_weight.specs.declared.kinds.Pair.{Pair}
use Rattle.wi_weight.specs.declared.kinds.Effort.{Effort}
use Rattle.wi_witness.specs.Derivations.{with_effort}
use Rattle.wi_witness.proofs.Tables.{some_row, last_weight, last_run, same_effort}
use Rattle.wi_witness.proofs.unfolding.unfold.Goals as goal

pub run_of_row-requires-clause-made : goal.run_of_row-requires-clause-made
run_of_row-requires-clause-made g c = (c.requires.derived.0, rw c.rows-rows.ensures c.requires.derived.2.made)

pub returns-clause-run : goal.returns-clause-run
returns-clause-run g c rules goal derived = last_run (pair_scale g.A.Domain.scale effort_scale) (with_effort g.A.Domain.components) _ _ _ _ _ derived
    (λ row at. c.in_ok-run_of_row.ensures row rules (rw c.rows-rows.ensures at) (rw c.rows-rows.ensures derived.made))

no_more : {A : Type 0} (best : Option (Pair A Effort)) (effort limit : ℕ) → effort ≤ limit → IfSome best (λ b. effort ≡ b.second.count) → IfSome best (λ b. b.second.count ≤ limit)
no_more None effort limit h e = tt
no_more (Some b) effort limit h e = omega arith

pub returns-clause-short : goal.returns-clause-short
returns-clause-short g c =
    let rows = c.args.table.now.rows in
    let some : 1 ≤ length rows = some_row (pair_scale g.A.Domain.scale effort_scale) (with_effort g.A.Domain.components) c.requires.derived.0 c.requires.derived.1 _ _ c.requires.derived.2 c.requires.reached in
    let within : length rows - 1 < length rows = omega (arith, some) in
    let at : slice_get rows (length rows - 1) ≡ Some c.index-rows-last.result =
    rw (sym c.rows-rows.ensures) (slice_get_read c.rows-rows.result.now _ (length c.rows-rows.result.now - 1) c.index-rows-last.result refl (rw c.rows-rows.ensures within) c.index-rows-last.is) in
    no_more c.args.table.now.best c.index-rows-last.result.weight.second.count c.args.limit (subst (λ x. x.weight.second.count ≤ c.args.limit) (sym c.index-rows-last.is) c.if-effort-limit.false)
    (same_effort g.A.Domain.scale g.A.Domain.components g.met.A.Domain.admitted c.args.table.now.best c.index-rows-last.result.weight
    (last_weight (pair_scale g.A.Domain.scale effort_scale) (with_effort g.A.Domain.components) _ _ rows c.args.table.now.best c.index-rows-last.result c.requires.derived.2 at))
