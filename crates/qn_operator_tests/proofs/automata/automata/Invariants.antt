use Rattle.qn_operator_tests.proofs.automata.automata.Given as goal

abbrev pub ghosts-expect_cases : goal.ghosts-expect_cases
ghosts-expect_cases g a = record { name = a.blank.name; parts = a.blank.parts }
