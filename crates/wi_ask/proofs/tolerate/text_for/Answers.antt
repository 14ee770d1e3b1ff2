use Rattle.std.proofs.Common.{rules}
use Rattle.wi_build.specs.Problems.{allowing}
use Rattle.wi_ask.proofs.Exactly.{exact_known}
use Rattle.wi_ask.proofs.tolerate.text_for.Goals as goal

pub tolerance_report-requires : goal.tolerance_report-requires
tolerance_report-requires c = let told = rw c.in-At.is at c.requires in exact_known (allowing c.args.problem.now c.in-At.k) c.in-At.answer told.2.exact.holds

pub returns-in-At : goal.returns-in-At
returns-in-At c = search rules
