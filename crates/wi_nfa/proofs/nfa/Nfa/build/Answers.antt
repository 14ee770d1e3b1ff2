use Rattle.std.proofs.Common.{length, ap, arith, rules}
use Rattle.wi_nfa.proofs.Building.{built, tables, count_rows, adds_from, square_as}
use Rattle.wi_nfa.proofs.nfa.Nfa.build.Goals as goal

pub invariant_of-result : goal.invariant_of-result
invariant_of-result g c =
    tables c.as_slice-table.result.now c.in_ok-after.after.items c.in_ok-ahead.ahead.items (length c.as_slice-table.result.now)
    (count_rows c.in_ok-after.after _ c.in_ok-after.ensures.len) (count_rows c.in_ok-ahead.ahead _ c.in_ok-ahead.ensures.len) c.in_ok-after.ensures.rows c.in_ok-ahead.ensures.rows
    (square_as _ _ _ _ c.in_ok-marks.ensures.square (let rows = ap length c.as_slice-table.ensures.value in let ok = c.in_ok-marks.marks.ok in omega arith) c.as_slice-table.ensures.value)
    (let rows = ap length c.as_slice-table.ensures.value in let ok = c.in_ok-marks.marks.ok in let size = c.in_ok-marks.ensures.count in omega arith)

pub returns-clause-built : goal.returns-clause-built
returns-clause-built g c =
    built g.A.Atom.set c.args.regex.now c.in_ok-marks.marks.items c.as_slice-table.result.now c.in_ok-marks.accepting.items c.push_atoms.new.atoms.items c.in_ok-after.after.items
    c.as_slice-table.ensures.value
    (let len = c.in_ok-after.ensures.len in let ok = c.in_ok-after.after.ok in let rows = ap length c.as_slice-table.ensures.value in let ok' = c.in_ok-marks.marks.ok in
    let size = c.in_ok-marks.ensures.count in let n = c.positions-n.ensures in let small = c.if-n-gt-POSITION_LIMIT.false in omega arith)
    c.in_ok-marks.ensures.follows c.in_ok-marks.ensures.ends (adds_from g.A.Atom.set _ _ _ c.new-atoms.ensures.items c.in_ok-push_atoms.ensures) c.in_ok-after.ensures.rows

pub returns-clause-small : goal.returns-clause-small
returns-clause-small c = search rules
