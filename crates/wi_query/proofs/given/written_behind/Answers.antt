-- The text doesn't stop before the front's end.
use Rattle.std.proofs.Common.{◌∙◌, length}
use Rattle.std.proofs.lemmas.Bool.{le-ltb}
use Rattle.wi_query.proofs.Giving.{stops_behind, syntax_behind}
use Rattle.wi_query.proofs.given.written_behind.Goals as goal

pub overflow_sub-result : goal.overflow_sub-result
overflow_sub-result c = stops_behind c.args.text.now c.as_str.result.now _ c.in-Err-Stops.at (c.as_str.ensures.value ∙ c.in_ok-whole.ensures) c.in-Err-Stops.field-0-is c.in-Err-Stops.ensures.refused

pub returns-in-Err-Stops-clause-refused : goal.returns-in-Err-Stops-clause-refused
returns-in-Err-Stops-clause-refused c = (
  le-ltb 4096 (length c.args.text.now) c.if-text-gt-LENGTH_LIMIT.false,
  syntax_behind c.args.text.now c.as_str.result.now _ c.in-Err-Stops.at (c.as_str.ensures.value ∙ c.in_ok-whole.ensures) c.in-Err-Stops.field-0-is c.in-Err-Stops.ensures.refused,
)
