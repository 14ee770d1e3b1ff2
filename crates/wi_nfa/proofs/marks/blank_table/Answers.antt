use Rattle.wi_nfa.proofs.Marking.{none_marked}
use Rattle.wi_nfa.proofs.marks.blank_table.Goals as goal

pub returns-clause-none : goal.returns-clause-none
returns-clause-none c = none_marked c.loop-row.rows.items c.args.size c.loop-row.invariant.rows
