use Rattle.wi_decide.proofs.MakerLemmas.{few_terms, written_ok}
use Rattle.wi_decide.proofs.RowLemmas.{rows_fit}
use Rattle.wi_decide.proofs.searching.Evidence.write_down.Goals as goal

pub closed_of-closed-requires-clause-few : goal.closed_of-closed-requires-clause-few
closed_of-closed-requires-clause-few c = rw c.terms.ensures (few_terms c.args.problem.now.vector c.keeps.ensures.vector)

pub closed_of-closed-requires-clause-fits : goal.closed_of-closed-requires-clause-fits
closed_of-closed-requires-clause-fits c = rows_fit c.args.problem.now c.args.self.heads.heads c.requires.1.cut c.args.self.table c.requires.1.table

pub returns : goal.returns
returns c =
    written_ok c.closed_of-closed.result c.args.problem.now c.args.self c.terms.result c.keeps.ensures.problem c.keeps.ensures.vector c.terms.ensures
    c.closed_of-closed.ensures.heads c.closed_of-closed.ensures.pairs c.closed_of-closed.ensures.heads_rise c.closed_of-closed.ensures.pairs_rise
    c.closed_of-closed.ensures.rows c.closed_of-closed.ensures.sorted
