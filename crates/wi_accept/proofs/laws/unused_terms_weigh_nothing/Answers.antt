use Rattle.wi_accept.proofs.UnusedTerms.{rule_weighs, run_weighs}
use Rattle.wi_accept.proofs.laws.unused_terms_weigh_nothing.Goals as goal

pub returns : goal.returns
returns c = record { rules = λ problem p g i r k there. rule_weighs problem k p g r there i; runs = run_weighs }
