use Rattle.wi_app.proofs.Written.{written_accepted}
use Rattle.wi_app.proofs.laws.what_is_written_is_accepted.Goals as goal

pub returns : goal.returns
returns c = written_accepted
