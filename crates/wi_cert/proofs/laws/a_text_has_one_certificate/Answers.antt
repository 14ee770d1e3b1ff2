use Rattle.wi_cert.proofs.TextLemmas.{one_text}
use Rattle.wi_cert.proofs.laws.a_text_has_one_certificate.Goals as goal

pub returns : goal.returns
returns c = one_text
