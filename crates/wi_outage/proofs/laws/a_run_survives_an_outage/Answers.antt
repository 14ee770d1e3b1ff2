use Rattle.wi_outage.proofs.Surviving.{survived, off_the_way, uses_no_failed}
use Rattle.wi_outage.proofs.laws.a_run_survives_an_outage.Goals as goal

pub returns-clause-survived : goal.returns-clause-survived
returns-clause-survived c = survived

pub returns-clause-off_the_way : goal.returns-clause-off_the_way
returns-clause-off_the_way c = off_the_way

pub returns-clause-uses_no_failed : goal.returns-clause-uses_no_failed
returns-clause-uses_no_failed c = uses_no_failed
