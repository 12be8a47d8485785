use Rattle.qn_program_tests.proofs.ends.too_long.Given as goal

abbrev pub ghosts-expect_end : goal.ghosts-expect_end
ghosts-expect_end g a = record { name = a.blank.name; parts = a.blank.parts }
