-- The names from the left, and the parts.
use Rattle.std.proofs.lemmas.Result.{err_from_is_err_and}
use Rattle.wi_syntax.specs.Atoms.{is_label_atom, is_link_atom}
use Rattle.wi_query.proofs.Firsts.{in_first, in_path, in_last, in_down}
use Rattle.wi_query.proofs.Queries.{shown_expression, label_signs, link_signs}
use Rattle.wi_query.proofs.parts.parts_of.Goals as goal

pub regex_of-requires : goal.regex_of-requires
regex_of-requires c = shown_expression is_label_atom _ _ c.as_slice.ensures c.requires.first

pub returns-in_err-first-clause-refused : goal.returns-in_err-first-clause-refused
returns-in_err-first-clause-refused c =
    let p = err_from_is_err_and c.from_residual.result c.from_residual.ensures.1 in
    rw (p.1, p.2) (in_first c.args.net.now c.args.written.now _ _ c.as_slice.ensures c.in_err-first.ensures.refused)

pub regex_of-requires-2 : goal.regex_of-requires-2
regex_of-requires-2 c = shown_expression is_link_atom _ _ c.as_slice-2.ensures c.requires.path

pub returns-in_err-path-clause-refused : goal.returns-in_err-path-clause-refused
returns-in_err-path-clause-refused c =
    let p = err_from_is_err_and c.from_residual-in_err-path.result c.from_residual-in_err-path.ensures.1 in
    rw (p.1, p.2) (in_path c.args.net.now c.args.written.now _ _ _ c.as_slice.ensures c.as_slice-2.ensures c.in_ok-first.ensures.known c.in_err-path.ensures.refused)

pub returns-in_err-last-clause-refused : goal.returns-in_err-last-clause-refused
returns-in_err-last-clause-refused c =
    let p = err_from_is_err_and c.from_residual-in_err-last.result c.from_residual-in_err-last.ensures.1 in
    rw (p.1, p.2) (in_last c.args.net.now c.args.written.now _ _ _ c.as_slice.ensures c.as_slice-2.ensures c.in_ok-first.ensures.known c.in_ok-path.ensures.known c.in_err-last.ensures.refused)

pub returns-in_err-down-clause-refused : goal.returns-in_err-down-clause-refused
returns-in_err-down-clause-refused c =
    let p = err_from_is_err_and c.from_residual-in_err-down.result c.from_residual-in_err-down.ensures.1 in
    rw (p.1, p.2) (in_down c.args.net.now c.args.written.now _ _ _ c.as_slice.ensures c.as_slice-2.ensures c.in_ok-first.ensures.known c.in_ok-path.ensures.known c.in_ok-last.ensures.known c.in_err-down.ensures.refused)

pub returns-clause-made : goal.returns-clause-made
returns-clause-made c = record {
  first = label_signs c.args.net.now _ _ _ c.as_slice.ensures c.in_ok-first.ensures.read;
  path = link_signs c.args.net.now _ _ _ c.as_slice-2.ensures c.in_ok-path.ensures.read;
  last = c.in_ok-last.ensures.read;
  drops = c.is_dropped.ensures;
  down = c.in_ok-down.ensures.found;
  up = c.in_ok-up.ensures.found;
}
