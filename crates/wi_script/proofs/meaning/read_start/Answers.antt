use Rattle.std.proofs.Common.{rules}
use Rattle.wi_script.specs.private.Meaning.{start_read}
use Rattle.wi_script.proofs.meaning.read_start.Goals as goal

pub returns : goal.returns
unfolding start_read
returns c = search rules
