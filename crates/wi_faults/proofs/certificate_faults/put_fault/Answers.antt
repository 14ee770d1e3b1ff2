use Rattle.wi_faults.proofs.CertificateLemmas.{counts_put, if_put}
use Rattle.wi_faults.proofs.certificate_faults.put_fault.Goals as goal

pub returns-in_ok-put_counted-in-TermsDiffer : goal.returns-in_ok-put_counted-in-TermsDiffer
returns-in_ok-put_counted-in-TermsDiffer c =
    rw c.in-TermsDiffer.is (if_put c.put_number.result (counts_put c.in-TermsDiffer.shown c.in-TermsDiffer.asked c.args.text.now c.put_counted.new.text c.put_number.new.self c.in_ok-put_counted-in-TermsDiffer.ensures) c.put_number.ensures)

pub returns-in-WrongAnswer : goal.returns-in-WrongAnswer
returns-in-WrongAnswer c = rw c.in-WrongAnswer.is c.put-in-WrongAnswer.ensures

pub returns-in-NoMatch : goal.returns-in-NoMatch
returns-in-NoMatch c = rw (c.in-NoMatch.is, ← c.part_number.ensures) c.put_counted-in-NoMatch.ensures

pub returns-in-StepNotInTable : goal.returns-in-StepNotInTable
returns-in-StepNotInTable c = rw c.in-StepNotInTable.is c.put_counted-in-StepNotInTable.ensures
