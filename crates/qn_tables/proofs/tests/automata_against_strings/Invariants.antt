use Rattle.qn_tables.proofs.tests.automata_against_strings.Given as goal

abbrev pub ghosts-expect_all_elements : goal.ghosts-expect_all_elements
ghosts-expect_all_elements g a = record { name = a.blank.name; parts = a.blank.parts }
