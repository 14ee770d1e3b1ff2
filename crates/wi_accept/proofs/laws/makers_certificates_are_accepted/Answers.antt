use Rattle.wi_accept.proofs.MakerLemmas.{nothing_against}
use Rattle.wi_accept.proofs.laws.makers_certificates_are_accepted.Goals as goal

pub returns : goal.returns
returns c = nothing_against
