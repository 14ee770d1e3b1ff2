use Rattle.wi_protect.proofs.Naming.{named}
use Rattle.wi_protect.proofs.laws.labels_are_named.Goals as goal

pub returns : goal.returns
returns c = named
