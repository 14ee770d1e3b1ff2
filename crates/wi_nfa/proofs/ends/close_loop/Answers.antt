use Rattle.std.proofs.Common.{rules}
use Rattle.wi_nfa.proofs.ends.close_loop.Goals as goal

pub returns-then-not-looped-clause-marks : goal.returns-then-not-looped-clause-marks
returns-then-not-looped-clause-marks c = search rules
