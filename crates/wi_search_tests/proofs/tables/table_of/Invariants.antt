use Rattle.wi_search_tests.proofs.tables.table_of.Given as goal

abbrev pub ghosts-counted_table-L-Ledger : goal.ghosts-counted_table-L-Ledger
ghosts-counted_table-L-Ledger g a = record { name = a.blank.name; parts = a.blank.parts }

abbrev pub ghosts-counted_table-M-Ledger : goal.ghosts-counted_table-M-Ledger
ghosts-counted_table-M-Ledger g a = record { name = a.other.name; parts = a.other.parts }
