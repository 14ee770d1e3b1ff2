use Rattle.wi_accept.proofs.OneClosed.{closed_alike}
use Rattle.wi_accept.proofs.laws.makers_certificates_close_alike.Goals as goal

pub returns : goal.returns
returns c = closed_alike
