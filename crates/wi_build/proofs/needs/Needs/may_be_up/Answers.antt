use Rattle.std.proofs.Common.{rules}
use Rattle.wi_build.proofs.needs.Needs.may_be_up.Goals as goal

pub returns-then-not-contains : goal.returns-then-not-contains
returns-then-not-contains c = search rules
