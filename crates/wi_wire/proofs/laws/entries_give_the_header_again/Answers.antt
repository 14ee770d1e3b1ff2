use Rattle.wi_wire.proofs.NameLemmas.{header_again}
use Rattle.wi_wire.proofs.laws.entries_give_the_header_again.Goals as goal

pub returns : goal.returns
returns c = header_again
