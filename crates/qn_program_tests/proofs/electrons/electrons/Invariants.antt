use Rattle.qn_program_tests.proofs.electrons.electrons.Given as goal

abbrev pub ghosts-electrons_hold : goal.ghosts-electrons_hold
ghosts-electrons_hold g a = record { name = a.blank.name; parts = a.blank.parts }
