use Rattle.wi_outage.proofs.Settling.{kept_up}
use Rattle.wi_outage.proofs.laws.what_is_found_is_kept_up.Goals as goal

pub returns : goal.returns
returns c = kept_up
