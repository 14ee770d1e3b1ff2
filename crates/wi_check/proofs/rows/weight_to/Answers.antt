use Rattle.std.proofs.Common.{ap, ◌∙◌}
use Rattle.std.specs.Prelude.{option_map}
use Rattle.wi_quantity.specs.Weighing.{components}
use Rattle.wi_check.proofs.RowLemmas.{missing_weighs, found_weighs, found_terms}
use Rattle.wi_check.proofs.rows.weight_to.Goals as goal

pub returns-in_err-row : goal.returns-in_err-row
returns-in_err-row c = ap (option_map components) c.from_residual.ensures
    ∙ missing_weighs c.args.rows.terms c.args.head.0 c.args.head.1 c.args.target c.args.rows.rows.now _ c.row_to.ensures c.in_err-row.was

pub weight_of-requires-clause-all : goal.weight_of-requires-clause-all
weight_of-requires-clause-all c =
    found_terms c.args.rows.terms c.args.head.0 c.args.head.1 c.args.target c.args.rows.rows.now _ c.row_to.ensures _ _ c.in_ok-row.was c.as_slice.ensures c.requires.terms

pub returns : goal.returns
returns c =
    found_weighs c.args.rows.terms c.args.head.0 c.args.head.1 c.args.target c.args.rows.rows.now _ c.row_to.ensures _ _ _ c.in_ok-row.was c.weight_of.ensures.value c.as_slice.ensures
