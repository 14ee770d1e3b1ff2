use Rattle.wi_cert.proofs.TellingLemmas.{bad_line, bad_line_told}
use Rattle.wi_cert.proofs.laws.bad_lines_are_told.Goals as goal

pub returns-clause-bad : goal.returns-clause-bad
returns-clause-bad g c = bad_line

pub returns-clause-told : goal.returns-clause-told
returns-clause-told g c = bad_line_told
