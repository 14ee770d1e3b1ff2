use Rattle.wi_wire.proofs.StackLemmas.{one_stack, apart, first}
use Rattle.wi_wire.proofs.laws.bytes_begin_with_one_stack.Goals as goal

pub returns-clause-one : goal.returns-clause-one
returns-clause-one c = one_stack

pub returns-clause-apart : goal.returns-clause-apart
returns-clause-apart c = apart

pub returns-clause-first : goal.returns-clause-first
returns-clause-first c = first
