use Rattle.std.proofs.Common.{rules}
use Rattle.wi_nfa.proofs.ends.loops_past.Goals as goal

pub returns-then-looped : goal.returns-then-looped
returns-then-looped c = search rules
