use Rattle.std.proofs.Common.{length, ap, ◌∙◌, arith}
use Rattle.qn_pair.specs.Jobs.{JobValue, tuples_of}
use Rattle.qn_pair.proofs.Listed.{list_long, few_tuples}
use Rattle.qn_pair.proofs.job.Job.count.Goals as goal

pub returns-clause-count : goal.returns-clause-count
returns-clause-count g c =
    list_long (record { first = c.self.inside.first.now; second = c.self.inside.second.now; shared = c.self.inside.shared.now; between = c.self.inside.between_odd }) c.self.inside.tasks.now c.self.invariant
    ∙ ap (λ (j : JobValue). length (tuples_of j)) c.self.view_is

pub returns-clause-few : goal.returns-clause-few
returns-clause-few g c =
    let v : JobValue = record { first = c.self.inside.first.now; second = c.self.inside.second.now; shared = c.self.inside.shared.now; between = c.self.inside.between_odd } in
    omega (arith, list_long v c.self.inside.tasks.now c.self.invariant, few_tuples v c.self.invariant.pair)
