use Rattle.qn_tensor_tests.proofs.workers.a_second_worker_draws_beside_the_first.Given as goal

abbrev pub ghosts-expect_meeting : goal.ghosts-expect_meeting
ghosts-expect_meeting g a = record { name = a.blank.name; parts = a.blank.parts }
