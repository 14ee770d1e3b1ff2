use Rattle.wi_cert.proofs.SoundLemmas.{decoded_is_text}
use Rattle.wi_cert.proofs.TextLemmas.{text_is_decoded}
use Rattle.wi_cert.proofs.laws.texts_are_read.Goals as goal

pub returns-clause-read : goal.returns-clause-read
returns-clause-read c = text_is_decoded

pub returns-clause-written : goal.returns-clause-written
returns-clause-written c = decoded_is_text
