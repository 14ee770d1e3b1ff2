use Rattle.wi_decide.proofs.ShownLemmas.{overflow_shown}
use Rattle.wi_decide.proofs.laws.overflows_show.Goals as goal

pub returns : goal.returns
returns c = overflow_shown
