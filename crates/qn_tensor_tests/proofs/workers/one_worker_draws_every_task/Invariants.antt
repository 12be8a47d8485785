use Rattle.qn_tensor_tests.proofs.workers.one_worker_draws_every_task.Given as goal

abbrev pub ghosts-expect_work : goal.ghosts-expect_work
ghosts-expect_work g a = record { name = a.blank.name; parts = a.blank.parts }
