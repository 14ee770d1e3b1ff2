use Rattle.wi_ask.proofs.Exactly.{answered_reported, exact_known}
use Rattle.wi_ask.proofs.exact.reported.Goals as goal

pub printed-printed-requires : goal.printed-printed-requires
printed-printed-requires c = exact_known c.args.problem.now c.in_ok-answer.answer c.in_ok-answer.ensures.answered.exact.holds

pub returns-clause-reported : goal.returns-clause-reported
returns-clause-reported c = answered_reported _ c.args.problem.now c.in_ok-answer.answer c.in_ok-answer.nodes c.keeps.ensures.problem c.in_ok-answer.ensures.answered c.in_ok-printed.ensures.status c.in_ok-printed.ensures.text
