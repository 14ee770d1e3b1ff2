use Rattle.std.proofs.Common.{List, ℕ, sym, ap, ◌∙◌, refl, map}
use Rattle.std.specs.Prelude.{find}
use Rattle.std.specs.List.{flat_map}
use Rattle.wi_weight.specs.Weights.{plus}
use Rattle.wi_quantity.specs.Weighing.{components}
use Rattle.wi_pds.specs.Closed.{Summary}
use Rattle.wi_cert.specs.declared.row.Row.{Row}
use Rattle.wi_accept.specs.Answers.{padded}
use Rattle.wi_accept.specs.Causes.{rows_of}
use Rattle.wi_check.specs.private.Rows.{summaries}
use Rattle.wi_check.proofs.Parts.{part_found, part_none, is_some_mapped}
use Rattle.wi_check.proofs.RowLemmas.{one_part, two_parts, summary_of, is_open_in, own_parts, own_terms, sum_of_part}
use Rattle.wi_check.proofs.OwnRows.{own_after, terms_of_own}
use Rattle.wi_check.proofs.rows.open_after_two.Goals as goal

pub open_after-found-requires-clause-parts : goal.open_after-found-requires-clause-parts
open_after-found-requires-clause-parts c = terms_of_own c.args.rows c.args.own c.args.head c.args.bound c.requires.own _ (own_terms c.args.rows.terms c.part-item.result.q c.args.v c.args.rows.rows.now _ c.rows_at-others.ensures c.requires.rows.terms)

pub returns-then-is_some : goal.returns-then-is_some
returns-then-is_some c =
    let half = sum_of_part c.args.rows.terms _ (components c.args.weight) _ _ _ c.extend-half.ensures c.weight_of.ensures.value c.as_slice.ensures in
    let found = c.open_after-found.ensures ∙ own_after c.args.rows c.args.own c.args.head c.args.bound c.requires.own (components c.extend-half.result) c.rows_at-others.result.now
    ∙ ap (λ (w : List ℕ). find (is_open_in c.args.rows c.args.bound) (map (one_part c.args.head w) (rows_of c.args.rows.terms c.rows_at-others.result.now))) half
    ∙ ap (λ (ss : List Summary). find (is_open_in c.args.rows c.args.bound) (map (one_part c.args.head (plus (components c.args.weight) (padded c.args.rows.terms c.part-item.result.weight))) ss))
    (own_parts c.args.rows.terms c.part-item.result.q c.args.v c.args.rows.rows.now _ c.rows_at-others.ensures) in
    part_found (is_open_in c.args.rows c.args.bound)
    (λ (rs : List Row). flat_map (two_parts c.args.head (components c.args.weight) (summaries c.args.rows) c.args.v) (rows_of c.args.rows.terms rs))
    (λ (r : Row). two_parts c.args.head (components c.args.weight) (summaries c.args.rows) c.args.v (summary_of c.args.rows.terms r)) (λ r rs. refl)
    c.args.parts.now c.loop-part.part-index c.part-item.result _ _ _ c.loop-part-test.true c.part-item.is found c.loop-part.invariant (is_some_mapped _ _ _ (sym c.is_some.ensures ∙ c.if-is_some.true))

pub loop-part-preserved : goal.loop-part-preserved
loop-part-preserved c =
    let half = sum_of_part c.args.rows.terms _ (components c.args.weight) _ _ _ c.extend-half.ensures c.weight_of.ensures.value c.as_slice.ensures in
    let found = c.open_after-found.ensures ∙ own_after c.args.rows c.args.own c.args.head c.args.bound c.requires.own (components c.extend-half.result) c.rows_at-others.result.now
    ∙ ap (λ (w : List ℕ). find (is_open_in c.args.rows c.args.bound) (map (one_part c.args.head w) (rows_of c.args.rows.terms c.rows_at-others.result.now))) half
    ∙ ap (λ (ss : List Summary). find (is_open_in c.args.rows c.args.bound) (map (one_part c.args.head (plus (components c.args.weight) (padded c.args.rows.terms c.part-item.result.weight))) ss))
    (own_parts c.args.rows.terms c.part-item.result.q c.args.v c.args.rows.rows.now _ c.rows_at-others.ensures) in
    part_none (is_open_in c.args.rows c.args.bound)
    (λ (rs : List Row). flat_map (two_parts c.args.head (components c.args.weight) (summaries c.args.rows) c.args.v) (rows_of c.args.rows.terms rs))
    (λ (r : Row). two_parts c.args.head (components c.args.weight) (summaries c.args.rows) c.args.v (summary_of c.args.rows.terms r)) (λ r rs. refl)
    c.args.parts.now c.loop-part.part-index c.part-item.result _ _ _ c.loop-part-test.true c.part-item.is found c.loop-part.invariant (is_some_mapped _ _ _ (sym c.is_some.ensures ∙ c.if-is_some.false))
