use Rattle.wi_cert.proofs.ReadingLemmas.{fed_append}
use Rattle.wi_cert.proofs.laws.pieces_are_bytes.Goals as goal

pub returns : goal.returns
returns g c = fed_append
