use Rattle.wi_outage.proofs.Settling.{at_one_more}
use Rattle.wi_outage.proofs.laws.a_no_at_one_more_survives.Goals as goal

pub returns : goal.returns
returns c = at_one_more
