use Rattle.std.proofs.Common.{rules}
use Rattle.wi_trace.proofs.hop.fixed_against.Goals as goal

pub returns-then-contains : goal.returns-then-contains
returns-then-contains c = search rules
