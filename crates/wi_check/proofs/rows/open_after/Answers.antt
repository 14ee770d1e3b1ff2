use Rattle.std.proofs.Common.{List, ℕ, [], ◌∷◌, sym, ap, ◌∙◌, refl, map}
use Rattle.std.specs.Prelude.{find}
use Rattle.wi_quantity.specs.Weighing.{components}
use Rattle.wi_cert.specs.declared.row.Row.{Row}
use Rattle.wi_accept.specs.Causes.{rows_of}
use Rattle.wi_accept.specs.Demands.{row}
use Rattle.wi_check.proofs.Parts.{part_found, part_none, is_some_mapped}
use Rattle.wi_check.proofs.RowLemmas.{one_part, summary_of, is_open_in, sum_of_part}
use Rattle.wi_check.proofs.rows.open_after.Goals as goal

pub returns-then-is_some : goal.returns-then-is_some
returns-then-is_some c =
    let found = c.open_demand-found.ensures
    ∙ ap (λ (w : List ℕ). find (is_open_in c.args.rows c.args.bound) (row c.args.head.0 c.args.head.1 c.part-item.result.q w ∷ []))
    (sum_of_part c.args.rows.terms _ (components c.args.weight) _ _ _ c.extend-sum.ensures c.weight_of.ensures.value c.as_slice.ensures) in
    part_found (is_open_in c.args.rows c.args.bound)
    (λ (rs : List Row). map (one_part c.args.head (components c.args.weight)) (rows_of c.args.rows.terms rs)) (λ (r : Row). one_part c.args.head (components c.args.weight) (summary_of c.args.rows.terms r) ∷ []) (λ r rs. refl)
    c.args.parts.now c.loop-part.part-index c.part-item.result _ _ _ c.loop-part-test.true c.part-item.is found c.loop-part.invariant (is_some_mapped _ _ _ (sym c.is_some.ensures ∙ c.if-is_some.true))

pub loop-part-preserved : goal.loop-part-preserved
loop-part-preserved c =
    let found = c.open_demand-found.ensures
    ∙ ap (λ (w : List ℕ). find (is_open_in c.args.rows c.args.bound) (row c.args.head.0 c.args.head.1 c.part-item.result.q w ∷ []))
    (sum_of_part c.args.rows.terms _ (components c.args.weight) _ _ _ c.extend-sum.ensures c.weight_of.ensures.value c.as_slice.ensures) in
    part_none (is_open_in c.args.rows c.args.bound)
    (λ (rs : List Row). map (one_part c.args.head (components c.args.weight)) (rows_of c.args.rows.terms rs)) (λ (r : Row). one_part c.args.head (components c.args.weight) (summary_of c.args.rows.terms r) ∷ []) (λ r rs. refl)
    c.args.parts.now c.loop-part.part-index c.part-item.result _ _ _ c.loop-part-test.true c.part-item.is found c.loop-part.invariant (is_some_mapped _ _ _ (sym c.is_some.ensures ∙ c.if-is_some.false))
