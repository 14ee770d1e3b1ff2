use Rattle.wi_nfa.proofs.Walks.{accepted}
use Rattle.wi_nfa.proofs.laws.accepts_what_matches.Goals as goal

pub returns : goal.returns
returns g c = λ r m w is. accepted g.A.Atom.set r m is w
