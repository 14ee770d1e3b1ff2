use Rattle.std.proofs.Common.{◌≡◌, length}
use Rattle.wi_nfa.specs.Left.{states_left}
use Rattle.wi_nfa.proofs.states.StatesIterator.next.Given as goal

abbrev pub invariant-loop-first : goal.invariant-loop-first
invariant-loop-first g l = states_left g.A.Atom.set l.self ≡ states_left g.A.Atom.set l.initial.self

abbrev pub decreases-loop-first : goal.decreases-loop-first
decreases-loop-first g l = length l.self.left.now
