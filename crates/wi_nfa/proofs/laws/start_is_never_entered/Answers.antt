use Rattle.std.proofs.Common.{arith}
use Rattle.wi_nfa.proofs.Walks.{led_within}
use Rattle.wi_nfa.proofs.laws.start_is_never_entered.Goals as goal

pub returns-clause-start : goal.returns-clause-start
returns-clause-start g c = λ r m p is h. (let within = led_within g.A.Atom.set r m is p 0 h in absurd (omega (arith, within.above)))

pub returns-clause-positions : goal.returns-clause-positions
returns-clause-positions g c = λ r m p q is h. (let within = led_within g.A.Atom.set r m is p q h in (omega (arith, within.above), omega (arith, within.upto)))
