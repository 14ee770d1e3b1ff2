use Rattle.std.proofs.Common.{refl, ◌∙◌}
use Rattle.wi_policy.specs.private.Reading.{statement_said}
use Rattle.wi_policy.proofs.Judging.{wrong_line}
use Rattle.wi_policy.proofs.read.policy_on.Goals as goal

pub returns-in-Ok-Some : goal.returns-in-Ok-Some
returns-in-Ok-Some c = (refl, wrong_line c.args.net.now c.args.given.now c.args.line.now c.as_str.result.now (statement_said c.in-Some.said) c.in-Ok-Some.fault c.utf8.line c.requires c.in-Some.ensures (c.as_str.ensures.value ∙ c.in_ok-query.ensures) (rw c.in-Ok-Some.field-0-is at c.in-Ok-Some.ensures))
