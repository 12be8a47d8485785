use Rattle.std.proofs.Common.{◌<◌, length, ap, ◌∙◌, sym, subst, arith}
use Rattle.qn_match.specs.Pairs.{task_for}
use Rattle.qn_pair.specs.Jobs.{JobValue, tuples_of, tuple_at}
use Rattle.qn_pair.proofs.Listed.{list_long, task_at}
use Rattle.qn_pair.proofs.job.Job.task.Goals as goal

pub task_in-requires : goal.task_in-requires
task_in-requires g c =
    let v : JobValue = record { first = c.self.inside.first.now; second = c.self.inside.second.now; shared = c.self.inside.shared.now; between = c.self.inside.between_odd } in
    omega (arith, list_long v c.self.inside.tasks.now c.self.invariant, ap (λ (j : JobValue). length (tuples_of j)) c.self.view_is, c.requires)

pub returns : goal.returns
returns g c =
    let v : JobValue = record { first = c.self.inside.first.now; second = c.self.inside.second.now; shared = c.self.inside.shared.now; between = c.self.inside.between_odd } in
    let lt : c.args.number < length (tuples_of v) = subst (λ (j : JobValue). c.args.number < length (tuples_of j)) (sym c.self.view_is) c.requires in
    (task_at v c.self.inside.tasks.now c.self.invariant c.args.number c.task_in.result.now lt c.task_in.ensures).form ∙ ap (λ (j : JobValue). task_for j.shared j.first.blocks j.second.blocks (tuple_at j c.args.number)) c.self.view_is
