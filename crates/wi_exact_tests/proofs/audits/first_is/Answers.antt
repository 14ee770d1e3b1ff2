use Rattle.std.proofs.Common.{sym}
use Rattle.wi_policy.proofs.Askable.{each_asked}
use Rattle.wi_exact_tests.proofs.audits.first_is.Goals as goal

pub audited-requires-clause-askable : goal.audited-requires-clause-askable
audited-requires-clause-askable g c = each_asked c.args.net.now c.args.given.now c.requires.policies.0 c.args.policies.now 0 _ c.requires.policies.1 (sym c.in-Some.ensures.value)
