use Rattle.wi_search_tests.proofs.saturate.tries_are_no_more_than_the_candidates.Given as goal

abbrev pub ghosts-candidates_of-L-Ledger : goal.ghosts-candidates_of-L-Ledger
ghosts-candidates_of-L-Ledger g a = record { name = a.blank.name; parts = a.blank.parts }

abbrev pub ghosts-candidates_of-M-Ledger : goal.ghosts-candidates_of-M-Ledger
ghosts-candidates_of-M-Ledger g a = record { name = a.other.name; parts = a.other.parts }
