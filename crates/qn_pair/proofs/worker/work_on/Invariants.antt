use Rattle.std.proofs.Common.{◌≡◌, ◌≤◌, ◌+◌, ◌-◌, ℕ, List, length}
use Rattle.qn_pair.specs.Jobs.{tuples_of}
use Rattle.qn_pair.proofs.Loops.{IsLoop, above_all}
use Rattle.qn_pair.proofs.worker.work_on.Given as goal

abbrev pub invariant-loop-task : goal.invariant-loop-task
invariant-loop-task g l = (l.seat.board ≡ l.board) × (l.steps ≤ l.initial.steps + l.cost) × ((new : List ℕ) × (gained : List ℕ) × IsLoop (g.T.Tasks.job l.tasks) l.initial.seat.state l.seat.state l.cost l.done.items new gained)

abbrev pub decreases-loop-task : goal.decreases-loop-task
decreases-loop-task g l = length (tuples_of (g.T.Tasks.job l.tasks)) - above_all l.seat.state.drawn
