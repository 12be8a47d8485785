use Rattle.qn_network_tests.proofs.comparing.networks_by_the_plain_program.Given as goal

abbrev pub ghosts-compare_all : goal.ghosts-compare_all
ghosts-compare_all g a = record { name = a.blank.name; parts = a.blank.parts }
