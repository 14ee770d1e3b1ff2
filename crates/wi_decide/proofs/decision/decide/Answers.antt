use Rattle.wi_accept.proofs.MakerLemmas.{nothing_against}
use Rattle.wi_decide.proofs.FoundLemmas.{answer_small, not_due}
use Rattle.wi_decide.proofs.MakerLemmas.{made_by}
use Rattle.wi_decide.proofs.ShowingLemmas.{small_answer}
use Rattle.wi_decide.proofs.decision.decide.Goals as goal

pub shown_of-requires-clause-fits : goal.shown_of-requires-clause-fits
shown_of-requires-clause-fits c = answer_small c.in_ok-searched.searched.found c.in_ok-answer.answer.weight c.in_ok-searched.ensures.small c.in_ok-answer.ensures.weight

pub shown_of-requires-clause-numbers : goal.shown_of-requires-clause-numbers
shown_of-requires-clause-numbers c = small_answer c.args.problem.now c.keeps.ensures.problem c.in_ok-answer.answer c.in_ok-answer.ensures.decided

pub returns-clause-made : goal.returns-clause-made
returns-clause-made c =
    made_by c.args.problem.now c.in_ok-answer.answer c.in_ok-searched.searched.found c.in_ok-shown.shown c.in_ok-closed.closed
    c.keeps.ensures.problem c.keeps.ensures.vector
    (c.in_ok-closed.ensures _ c.in_ok-searched.ensures.evidence) c.in_ok-answer.ensures.decided c.in_ok-answer.ensures.weight c.in_ok-shown.ensures

pub returns-clause-accepted : goal.returns-clause-accepted
returns-clause-accepted c =
    nothing_against c.args.problem.now c.in_ok-answer.answer (record { shown = c.in_ok-shown.shown; closed = c.in_ok-closed.closed })
    c.keeps.ensures.problem c.in_ok-answer.ensures.decided (returns-clause-made c)

pub returns-clause-unrefused : goal.returns-clause-unrefused
returns-clause-unrefused c =
    not_due c.args.problem.now c.in_ok-searched.searched.found c.in_ok-answer.answer c.in_ok-searched.ensures.found c.in_ok-searched.ensures.fits c.in_ok-answer.ensures.run

pub write_down-requires : goal.write_down-requires
write_down-requires c = (_, c.in_ok-searched.ensures.evidence)
