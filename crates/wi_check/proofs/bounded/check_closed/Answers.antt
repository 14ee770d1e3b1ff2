use Rattle.std.proofs.Common.{rules}
use Rattle.wi_check.proofs.Rising.{heads_rise, pairs_rise, rows_are}
use Rattle.wi_check.proofs.bounded.check_closed.Goals as goal

pub first_lack-requires-clause-heads : goal.first_lack-requires-clause-heads
first_lack-requires-clause-heads c = heads_rise _ _ _ c.requires.closed c.as_slice.ensures

pub first_lack-requires-clause-pairs : goal.first_lack-requires-clause-pairs
first_lack-requires-clause-pairs c = pairs_rise _ _ _ c.requires.closed c.as_slice-2.ensures

pub first_lack-requires-clause-rows : goal.first_lack-requires-clause-rows
first_lack-requires-clause-rows c = rows_are _ _ _ c.requires.shown c.requires.closed c.rows_of.ensures.terms c.rows_of.ensures.rows

pub check_rows-requires-clause-demand : goal.check_rows-requires-clause-demand
check_rows-requires-clause-demand c = search rules
