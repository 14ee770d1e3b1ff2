use Rattle.wi_build.proofs.StateLemmas.{after_by}
use Rattle.wi_build.proofs.states.after.Goals as goal

pub returns : goal.returns
returns c = after_by _ _ _ _ _ c.nfa.ensures c.keeps.ensures c.next.ensures
