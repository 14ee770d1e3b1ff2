use Rattle.std.proofs.Common.{sym}
use Rattle.wi_policy.proofs.Askable.{each_asked}
use Rattle.wi_text_tests.proofs.policies.is_asked.Goals as goal

pub asked_by-requires-clause-askable : goal.asked_by-requires-clause-askable
asked_by-requires-clause-askable g c = each_asked c.args.net.now c.args.given.now c.requires.policies.0 c.args.policies.now 0 _ c.requires.policies.1 (sym c.in-Some.ensures.value)
