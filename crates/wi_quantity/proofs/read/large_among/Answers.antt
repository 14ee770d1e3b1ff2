use Rattle.wi_quantity.proofs.MeaningLemmas.{large_found, large_passed}
use Rattle.wi_quantity.proofs.read.large_among.Goals as goal

pub returns-in-Some : goal.returns-in-Some
returns-in-Some c = large_found c.args.terms.now c.loop-term.term-index _ c.as_slice.result.now c.in-Some.byte c.loop-term-test.true c.term-item.is c.as_slice.ensures c.loop-term.invariant c.in-Some.ensures

pub loop-term-preserved : goal.loop-term-preserved
loop-term-preserved c = large_passed c.args.terms.now c.loop-term.term-index _ c.as_slice.result.now c.loop-term-test.true c.term-item.is c.as_slice.ensures c.loop-term.invariant c.in_default.ensures
