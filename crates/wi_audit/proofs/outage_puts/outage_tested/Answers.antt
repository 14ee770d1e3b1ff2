use Rattle.std.proofs.Common.{◌∙◌, ap, length}
use Rattle.wi_audit.specs.Outages.{IsTried}
use Rattle.wi_audit.proofs.Zips.{zip_long}
use Rattle.wi_audit.proofs.outage_puts.outage_tested.Goals as goal

pub test_of-test-requires-clause-tried : goal.test_of-test-requires-clause-tried
test_of-test-requires-clause-tried c =
    ap (λ tried. length tried) c.deref.ensures.value ∙ zip_long (IsTried c.args.net.now c.args.given.now c.args.outage.now.links) c.args.policies.now c.in_ok-tried.tried.items c.in_ok-tried.ensures.tried
