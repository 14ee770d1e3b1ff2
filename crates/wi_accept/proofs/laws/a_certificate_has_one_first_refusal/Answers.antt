use Rattle.wi_accept.proofs.FirstRefusals.{one_refusal}
use Rattle.wi_accept.proofs.laws.a_certificate_has_one_first_refusal.Goals as goal

pub returns : goal.returns
returns c = one_refusal
