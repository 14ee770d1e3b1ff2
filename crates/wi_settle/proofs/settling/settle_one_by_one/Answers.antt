use Rattle.wi_settle.proofs.OutageLaws.{kept_first}
use Rattle.wi_settle.proofs.settling.settle_one_by_one.Goals as goal

pub keep_up-done-requires-clause-kept : goal.keep_up-done-requires-clause-kept
keep_up-done-requires-clause-kept c = kept_first c.args.problem.now c.in_ok-bounds.bounds c.in_ok-bounds.ensures.value c.in_ok-bounds.ensures.are
