use Rattle.wi_accept.proofs.AcceptedLemmas.{answer_holds}
use Rattle.wi_accept.proofs.laws.an_accepted_answer_holds.Goals as goal

pub returns : goal.returns
returns c = answer_holds
