use Rattle.wi_build.proofs.StateLemmas.{before_by}
use Rattle.wi_build.proofs.states.before.Goals as goal

pub returns : goal.returns
returns c = before_by c.args.expression.now _ _ _ _ c.nfa.ensures c.before-2.ensures
