use Rattle.wi_outage.proofs.Keeping.{groups_are, groups_are_one, routers_are, down_kept, up_kept}
use Rattle.wi_outage.proofs.laws.outages_keep_bounds.Goals as goal

pub returns-clause-groups : goal.returns-clause-groups
returns-clause-groups c = groups_are

pub returns-clause-one_group : goal.returns-clause-one_group
returns-clause-one_group c = groups_are_one

pub returns-clause-routers : goal.returns-clause-routers
returns-clause-routers c = routers_are

pub returns-clause-down : goal.returns-clause-down
returns-clause-down c = down_kept

pub returns-clause-up : goal.returns-clause-up
returns-clause-up c = up_kept
