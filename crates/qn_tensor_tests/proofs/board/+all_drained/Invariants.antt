use Rattle.qn_tensor_tests.proofs.board.+all_drained.Given as goal

abbrev pub decreases-all_drained : goal.decreases-all_drained
decreases-all_drained l = l.more
