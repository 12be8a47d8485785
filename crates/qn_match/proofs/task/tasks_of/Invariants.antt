use Rattle.std.proofs.Common.{◌≡◌, map}
use Rattle.qn_match.proofs.Added.{task_so_far}
use Rattle.qn_match.proofs.task.tasks_of.Given as goal

abbrev pub invariant-loop-i : goal.invariant-loop-i
invariant-loop-i l = l.tasks.items ≡ map (task_so_far l.shared l.firsts l.seconds l.i) l.tuples
