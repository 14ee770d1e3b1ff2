use Rattle.std.proofs.Common.{rules}
use Rattle.wi_ask.proofs.Deciding.{decided_believed, decided_summed}
use Rattle.wi_ask.proofs.ring.summary_of_asked.Goals as goal

pub returns-clause-summed : goal.returns-clause-summed
returns-clause-summed c =
    decided_summed c.summary_if_accepted-printed.result c.args.ring.0 c.args.ring.1 c.args.problem.now c.in_ok-answer.answer c.in_ok-answer.certificate c.in_ok-answer.ensures.certified
    c.summary_if_accepted-printed.ensures.text

pub returns-clause-refused : goal.returns-clause-refused
returns-clause-refused c =
    decided_believed c.summary_if_accepted-printed.result c.args.problem.now c.in_ok-answer.certificate c.in_ok-answer.ensures.certified.is.accepted c.summary_if_accepted-printed.ensures.refused

pub returns-in_err-answer-clause-refused : goal.returns-in_err-answer-clause-refused
returns-in_err-answer-clause-refused c = search rules
