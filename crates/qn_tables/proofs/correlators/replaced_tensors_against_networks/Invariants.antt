use Rattle.qn_tables.proofs.correlators.replaced_tensors_against_networks.Given as goal

abbrev pub ghosts-expect_all_replaced : goal.ghosts-expect_all_replaced
ghosts-expect_all_replaced g a = record { name = a.blank.name; parts = a.blank.parts }
