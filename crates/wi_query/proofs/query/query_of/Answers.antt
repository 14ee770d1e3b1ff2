use Rattle.std.proofs.Common.{rules}
-- The bounds come last.
use Rattle.wi_query.proofs.Queries.{wrong_bounds}
use Rattle.wi_query.proofs.query.query_of.Goals as goal

pub returns-in-Err-bounds_of-clause-wrong : goal.returns-in-Err-bounds_of-clause-wrong
returns-in-Err-bounds_of-clause-wrong c =
    wrong_bounds c.args.parts c.args.number.now c.in-Ok.first c.in-Ok-compiled.path c.in-Ok-compiled-2.last _
    c.in-Ok.ensures.regex c.in-Ok.ensures.automaton c.in-Ok-compiled.ensures.regex c.in-Ok-compiled.ensures.automaton c.in-Ok-compiled-2.ensures.regex c.in-Ok-compiled-2.ensures.automaton c.in-Err-bounds_of.ensures.refused

pub returns-in-Err-compiled-2-clause-wrong : goal.returns-in-Err-compiled-2-clause-wrong
returns-in-Err-compiled-2-clause-wrong c = search rules

pub returns-in-Err-compiled-clause-wrong : goal.returns-in-Err-compiled-clause-wrong
returns-in-Err-compiled-clause-wrong c = search rules

pub returns-in-Err-clause-wrong : goal.returns-in-Err-clause-wrong
returns-in-Err-clause-wrong c = search rules
