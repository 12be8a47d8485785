use Rattle.std.proofs.Common.{◌≡◌, ◌<◌, ◌∙◌, ◌&&◌, sym, ap, subst, lit<, arith, length}
use Rattle.qn_charge.specs.Charges.{parity}
use Rattle.qn_index.specs.Tuples.{IsTuple}
use Rattle.qn_index.specs.Places.{block_size}
use Rattle.qn_match.specs.Pairs.{TaskValue, task_for, pairs_for}
use Rattle.qn_kernel.specs.Sources.{sources, AreSources}
use Rattle.qn_pair.specs.Jobs.{JobValue, AreLists, legs_of, tuples_of, tuple_at}
use Rattle.qn_pair.proofs.Listed.{listed_tuple}
use Rattle.qn_pair.proofs.Tasks.{if_ok}
use Rattle.qn_pair.proofs.frame.Frame.sources.Goals as goal

pub sources_of_task-requires : goal.sources_of_task-requires
sources_of_task-requires g c =
    let v : JobValue = record { first = c.job.inside.first.now; second = c.job.inside.second.now; shared = c.job.inside.shared.now; between = c.job.inside.between_odd } in
    let e : v ≡ c.self.inside.job.now = c.job.view_is in
    let out : c.task.result.now.out ≡ tuple_at c.self.inside.job.now c.args.task = ap (λ (t : TaskValue). t.out) c.task.ensures in
    let same : block_size (legs_of v) c.task.result.now.out ≡ block_size (legs_of c.self.inside.job.now) (tuple_at c.self.inside.job.now c.args.task) = (λ i. block_size (legs_of (e i)) (out i)) in
    let l = listed_tuple c.self.inside.job.now c.args.task c.known.ensures.pair (subst (λ (j : JobValue). c.args.task < length (tuples_of j)) (sym c.self.view_is) c.requires) in (
      lit< tt,
      (
        lit< tt,
        (
          c.job.invariant.pair,
          (
            subst (λ (j : JobValue). AreLists j.first j.second j.shared c.self.inside.lists.word.items c.self.inside.lists.goal.items c.self.inside.lists.places.items c.self.inside.lists.left.items) (sym e) c.self.invariant,
            (
              c.task.ensures ∙ (λ i. task_for (sym e i).shared (sym e i).first.blocks (sym e i).second.blocks (sym out i)),
              (subst (λ p. p) (λ i. IsTuple (legs_of (sym e i)) (sym out i)) l.admissible.tuple, omega (arith, l.small, same)),
            ),
          ),
        ),
      ),
    )

pub returns-clause-value : goal.returns-clause-value
returns-clause-value g c =
    let v : JobValue = record { first = c.job.inside.first.now; second = c.job.inside.second.now; shared = c.job.inside.shared.now; between = c.job.inside.between_odd } in
    let e : v ≡ c.args.self.now = c.job.view_is ∙ c.self.view_is in
    let out : c.task.result.now.out ≡ tuple_at c.args.self.now c.args.task = ap (λ (t : TaskValue). t.out) c.task.ensures ∙ ap (λ (j : JobValue). tuple_at j c.args.task) c.self.view_is in
    let pairs : c.task.result.now.pairs ≡ pairs_for c.args.self.now.shared c.args.self.now.first.blocks c.args.self.now.second.blocks (tuple_at c.args.self.now c.args.task) =
    ap (λ (t : TaskValue). t.pairs) c.task.ensures ∙ ap (λ (j : JobValue). pairs_for j.shared j.first.blocks j.second.blocks (tuple_at j c.args.task)) c.self.view_is in
    if_ok _ _ c.sources_of_task.result
    (λ xs q. q ∙ (λ i. sources (e i).first.group (e i).first.legs (e i).second.legs (e i).shared ((e i).between && parity (e i).second.group (e i).second.flux) (legs_of (e i)) (out i) (e i).first.blocks (e i).second.blocks (pairs i)))
    c.sources_of_task.ensures.value

pub returns-clause-small : goal.returns-clause-small
returns-clause-small g c =
    let v : JobValue = record { first = c.job.inside.first.now; second = c.job.inside.second.now; shared = c.job.inside.shared.now; between = c.job.inside.between_odd } in
    let e : v ≡ c.args.self.now = c.job.view_is ∙ c.self.view_is in
    let out : c.task.result.now.out ≡ tuple_at c.args.self.now c.args.task = ap (λ (t : TaskValue). t.out) c.task.ensures ∙ ap (λ (j : JobValue). tuple_at j c.args.task) c.self.view_is in
    if_ok _ _ c.sources_of_task.result (λ xs h. subst (λ q. q) (λ i. AreSources (block_size (legs_of (e i)) (out i)) xs.items) h) c.sources_of_task.ensures.small
