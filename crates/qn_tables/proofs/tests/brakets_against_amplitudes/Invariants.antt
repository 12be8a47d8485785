use Rattle.qn_tables.proofs.tests.brakets_against_amplitudes.Given as goal

abbrev pub ghosts-expect_all_numbers : goal.ghosts-expect_all_numbers
ghosts-expect_all_numbers g a = record { name = a.blank.name; parts = a.blank.parts }
