use Rattle.wi_outage.specs.Outages.{group_outages, router_outages}
use Rattle.wi_exact_tests.proofs.Outages.{are_kept}
use Rattle.wi_exact_tests.proofs.settling.outages_of.Goals as goal

pub returns-in-Groups : goal.returns-in-Groups
returns-in-Groups c =
    are_kept c.group_outages.result c.args.problem.now (group_outages c.args.problem.now.net c.args.problem.now.bounds) c.keeps.ensures.problem.bounds_of (c.outages_keep_bounds.ensures.groups c.args.problem.now.net c.args.problem.now.bounds) (rw (c.net.ensures, c.bounds.ensures) at c.group_outages.ensures)

pub returns-in-Routers : goal.returns-in-Routers
returns-in-Routers c =
    are_kept c.router_outages.result c.args.problem.now (router_outages c.args.problem.now.net c.args.problem.now.bounds) c.keeps.ensures.problem.bounds_of (c.outages_keep_bounds.ensures.routers c.args.problem.now.net c.args.problem.now.bounds) (rw (c.net-in-Routers.ensures, c.bounds-in-Routers.ensures) at c.router_outages.ensures)
