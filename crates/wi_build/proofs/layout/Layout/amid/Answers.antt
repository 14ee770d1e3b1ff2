use Rattle.std.proofs.Common.{rules}
use Rattle.wi_build.proofs.layout.Layout.amid.Goals as goal

pub returns-then-n-size : goal.returns-then-n-size
returns-then-n-size c = search rules
