use Rattle.wi_bypass.proofs.SurvivalLemmas.{survives}
use Rattle.wi_bypass.proofs.laws.a_plan_without_unprotected_links_survives.Goals as goal

pub returns : goal.returns
returns c = survives
