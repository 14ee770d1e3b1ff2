use Rattle.wi_search_tests.proofs.saturate.the_lightest_candidate_is_taken_first.Given as goal

abbrev pub ghosts-tried_and_taken : goal.ghosts-tried_and_taken
ghosts-tried_and_taken g a = record { name = a.blank.name; parts = a.blank.parts }
