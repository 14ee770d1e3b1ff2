use Rattle.std.proofs.lemmas.Result.{err_from_is_err_and}
use Rattle.wi_decide.specs.private.Tables.{HasTable}
use Rattle.wi_decide.proofs.AnswerLemmas.{all_fit, no_table}
use Rattle.wi_decide.proofs.MakerLemmas.{bound_is, found_small}
use Rattle.wi_decide.proofs.searching.search_by.Goals as goal

pub found_of-requires : goal.found_of-requires
found_of-requires c = (c.args.cut, record { heads = c.in_ok-heads.heads.heads; pairs = c.in_ok-heads.heads.pairs; closed = c.in_ok-heads.ensures; least = c.in_ok-table.ensures.table })

pub returns-clause-found : goal.returns-clause-found
returns-clause-found c =
    let has : HasTable c.args.system.now c.args.cut c.in_ok-table.table = record { heads = c.in_ok-heads.heads.heads; pairs = c.in_ok-heads.heads.pairs; closed = c.in_ok-heads.ensures; least = c.in_ok-table.ensures.table } in
    c.in_ok-found.ensures.found c.args.cut has

pub returns-clause-evidence : goal.returns-clause-evidence
returns-clause-evidence c = record {
  closed = c.in_ok-heads.ensures;
  cut = c.args.cut;
  table = c.in_ok-table.ensures.table;
  bound_is = bound_is c.args.cut c.in_ok-found.found c.in_ok-table.table.best c.in_ok-found.ensures.weight;
}

pub returns-clause-fits : goal.returns-clause-fits
returns-clause-fits c =
    all_fit c.args.system.now c.keeps.ensures.problem c.args.cut c.in_ok-table.table
    (record { heads = c.in_ok-heads.heads.heads; pairs = c.in_ok-heads.heads.pairs; closed = c.in_ok-heads.ensures; least = c.in_ok-table.ensures.table })

pub returns-clause-small : goal.returns-clause-small
returns-clause-small c = found_small c.args.system.now c.in_ok-heads.heads.heads c.args.cut c.in_ok-table.table c.in_ok-found.found c.in_ok-table.ensures.table c.in_ok-found.ensures.weight

pub returns-in_err-table-clause-refused : goal.returns-in_err-table-clause-refused
returns-in_err-table-clause-refused c =
    let p = err_from_is_err_and c.from_residual-in_err-table.result c.from_residual-in_err-table.ensures.1 in
    rw (p.1, p.2) (no_table c.args.system.now c.args.cut c.in_ok-heads.heads.heads c.in_ok-heads.heads.pairs c.in_err-table.field-0.0 c.in_ok-heads.ensures c.in_err-table.ensures.refused)

pub returns-in_err-found-clause-refused : goal.returns-in_err-found-clause-refused
returns-in_err-found-clause-refused c =
    let p = err_from_is_err_and c.from_residual-in_err-found.result c.from_residual-in_err-found.ensures.1 in
    rw (p.1, p.2)
    (c.in_err-found.ensures.refused c.args.cut (record { heads = c.in_ok-heads.heads.heads; pairs = c.in_ok-heads.heads.pairs; closed = c.in_ok-heads.ensures; least = c.in_ok-table.ensures.table }))
