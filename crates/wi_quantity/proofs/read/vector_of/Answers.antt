use Rattle.wi_quantity.proofs.MeaningLemmas.{vector_fits, are_meant}
use Rattle.wi_quantity.proofs.read.vector_of.Goals as goal

pub invariant_of-result : goal.invariant_of-result
invariant_of-result c = vector_fits c.args.terms.now _ c.in_default-many_among.ensures c.in_ok-meant.ensures

pub returns-clause-meant : goal.returns-clause-meant
returns-clause-meant c = are_meant c.args.terms.now _ c.in_default.ensures c.in_default-many_among.ensures c.in_default-large_among.ensures c.in_ok-meant.ensures
