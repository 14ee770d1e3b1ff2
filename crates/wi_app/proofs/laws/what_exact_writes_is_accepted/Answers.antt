use Rattle.wi_app.proofs.Written.{tree_accepted}
use Rattle.wi_app.proofs.laws.what_exact_writes_is_accepted.Goals as goal

pub returns : goal.returns
returns c = tree_accepted
