use Rattle.std.proofs.Common.{subst}
use Rattle.std.specs.Prelude.{IfErr, IfOk, OnOk, option_map}
use Rattle.wi_quantity.specs.Weighing.{components}
use Rattle.wi_build.specs.Problems.{Problem}
use Rattle.wi_decide.specs.Searches.{AllFitBelow, IsEvidence, IsFound, IsSearchRefused, bound_with}
use Rattle.wi_decide.proofs.searching.search.Goals as goal

pub returns-clause-found : goal.returns-clause-found
returns-clause-found c = subst (λ (problem : Problem). IfOk c.search_by-searched.result (λ s. IsFound problem (option_map components c.args.cut) s.found)) c.in_ok-system.ensures c.search_by-searched.ensures.found

pub returns-clause-evidence : goal.returns-clause-evidence
returns-clause-evidence c =
    subst (λ (problem : Problem). IfOk c.search_by-searched.result (λ s. IsEvidence problem (bound_with (option_map components c.args.cut) s.found) s.evidence)) c.in_ok-system.ensures c.search_by-searched.ensures.evidence

pub returns-clause-fits : goal.returns-clause-fits
returns-clause-fits c = subst (λ (problem : Problem). OnOk c.search_by-searched.result (AllFitBelow problem (option_map components c.args.cut))) c.in_ok-system.ensures c.search_by-searched.ensures.fits

pub returns-clause-refused : goal.returns-clause-refused
returns-clause-refused c = subst (λ (problem : Problem). IfErr c.search_by-searched.result (IsSearchRefused problem (option_map components c.args.cut))) c.in_ok-system.ensures c.search_by-searched.ensures.refused
