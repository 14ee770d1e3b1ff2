use Rattle.std.proofs.Common.{rules}
use Rattle.wi_trace.proofs.hop.moving_against.Goals as goal

pub returns : goal.returns
returns c = search rules

pub returns-then-contains : goal.returns-then-contains
returns-then-contains c = search rules

pub returns-in-Some : goal.returns-in-Some
returns-in-Some c = search rules
