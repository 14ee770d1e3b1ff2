use Rattle.std.proofs.Common.{sym, ◌∙◌}
use Rattle.wi_wire.proofs.ReadingLemmas.{stack_read, stack_used}
use Rattle.wi_wire.proofs.stack.read_stack.Goals as goal

pub returns-then-is_bottom-clause-read : goal.returns-then-is_bottom-clause-read
returns-then-is_bottom-clause-read c = stack_read _ _ _ _ _ _ _ c.loop-entry.invariant.fit c.loop-entry.invariant.bytes_are c.in-Some.ensures.first (sym c.is_free.ensures ∙ c.if-not-is_free.false) c.if-is_bottom.true c.in_ok-add_entry.ensures

pub returns-then-is_bottom-clause-used : goal.returns-then-is_bottom-clause-used
returns-then-is_bottom-clause-used c = stack_used _ _ _ _ _ _ _ c.loop-entry.invariant.bytes_are c.in-Some.ensures.first c.if-is_bottom.true c.in_ok-add_entry.ensures
