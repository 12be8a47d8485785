use Rattle.qn_ground_tests.proofs.numbers.sums_and_products.Given as goal

abbrev pub ghosts-product : goal.ghosts-product
ghosts-product g a = record { name = a.blank.name; parts = a.blank.parts }
