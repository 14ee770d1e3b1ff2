use Rattle.std.proofs.Common.{rules}
use Rattle.wi_script.specs.private.Reading.{hop_in}
use Rattle.wi_script.proofs.line.hop.Goals as goal

pub returns-then-is_count-2 : goal.returns-then-is_count-2
unfolding hop_in
returns-then-is_count-2 c = search rules
