use Rattle.std.proofs.Common.{rules}
use Rattle.wi_script.specs.private.Reading.{label_in}
use Rattle.wi_script.proofs.line.next_label.Goals as goal

pub returns : goal.returns
unfolding label_in
returns c = search rules
