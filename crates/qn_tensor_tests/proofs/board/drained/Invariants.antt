use Rattle.std.proofs.Common.{◌≡◌, ◌<◌}
use Rattle.qn_tensor_tests.proofs.board.drained.Given as goal

abbrev pub invariant-loop-tasks : goal.invariant-loop-tasks
invariant-loop-tasks l = (l.seat.board ≡ l.board) × (l.seat.state.spent < l.seat.state.weight) × (l.seat.state.weight ≡ l.initial.seat.state.weight)
