use Rattle.std.proofs.Common.{◌≡◌, map, take}
use Rattle.qn_match.specs.Pairs.{empty_task}
use Rattle.qn_match.proofs.task.empty_tasks.Given as goal

abbrev pub invariant-loop-out : goal.invariant-loop-out
invariant-loop-out l = l.tasks.items ≡ map empty_task (take l.out-index l.tuples)
