use Rattle.std.proofs.Common.{arith, rules}
use Rattle.wi_outage.proofs.Unions.{apart_flip}
use Rattle.wi_outage.proofs.survival.is_survived.Goals as goal

pub returns-then-are_outside : goal.returns-then-are_outside
returns-then-are_outside c = first_of (search (rules, apart_flip), grind (arith, apart_flip))
