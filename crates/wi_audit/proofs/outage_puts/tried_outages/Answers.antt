use Rattle.wi_audit.proofs.Trials.{tried_groups, tried_routers}
use Rattle.wi_audit.proofs.outage_puts.tried_outages.Goals as goal

pub returns-then-routers-clause-trials : goal.returns-then-routers-clause-trials
returns-then-routers-clause-trials c = tried_routers c.router_outages.result c.args.net.now c.args.given.now c.args.routers c.if-routers.true c.router_outages.ensures

pub returns-else-routers-clause-trials : goal.returns-else-routers-clause-trials
returns-else-routers-clause-trials c = tried_groups c.group_outages.result c.args.net.now c.args.given.now c.args.routers c.if-routers.false c.group_outages.ensures
