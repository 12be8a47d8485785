use Rattle.std.proofs.Common.{◌≡◌, ◌∙◌, ap, sym, subst}
use Rattle.qn_match.specs.Pairs.{TaskValue}
use Rattle.qn_kernel.specs.Sources.{AreSources}
use Rattle.qn_pair.specs.Jobs.{JobValue, IsKnown, tuple_at}
use Rattle.qn_pair.proofs.Listed.{listed_tuple}
use Rattle.qn_pair.proofs.Tasks.{block_made}
use Rattle.qn_pair.proofs.frame.Frame.block_of_task.Goals as goal

pub returns-clause-block : goal.returns-clause-block
returns-clause-block g c =
    let known : IsKnown c.args.self.now = subst IsKnown c.self.view_is c.known.ensures in
    let out : c.behind-job.inside.out ≡ tuple_at c.args.self.now c.args.task = ap (λ (t : TaskValue). t.out) (c.behind-job.view_is ∙ c.task.ensures) ∙ ap (λ (j : JobValue). tuple_at j c.args.task) c.self.view_is in
    (block_made c.args.self.now c.args.task known.first known.second known.pair (listed_tuple c.args.self.now c.args.task known.pair c.requires).admissible.tuple c.deref.result.now (c.deref.ensures.value ∙ c.in_ok-sources.ensures.value) c.size-size.result c.size-size.ensures.value c.behind-job.inside.out out
    c.block_from.result c.block_from.ensures.block c.block_from.ensures.clear c.block_from.ensures.err c.block_from.new.steps c.args.steps.now c.block_from.ensures.steps).block

pub returns-clause-clear : goal.returns-clause-clear
returns-clause-clear g c =
    let known : IsKnown c.args.self.now = subst IsKnown c.self.view_is c.known.ensures in
    let out : c.behind-job.inside.out ≡ tuple_at c.args.self.now c.args.task = ap (λ (t : TaskValue). t.out) (c.behind-job.view_is ∙ c.task.ensures) ∙ ap (λ (j : JobValue). tuple_at j c.args.task) c.self.view_is in
    (block_made c.args.self.now c.args.task known.first known.second known.pair (listed_tuple c.args.self.now c.args.task known.pair c.requires).admissible.tuple c.deref.result.now (c.deref.ensures.value ∙ c.in_ok-sources.ensures.value) c.size-size.result c.size-size.ensures.value c.behind-job.inside.out out
    c.block_from.result c.block_from.ensures.block c.block_from.ensures.clear c.block_from.ensures.err c.block_from.new.steps c.args.steps.now c.block_from.ensures.steps).clear

pub returns-clause-err : goal.returns-clause-err
returns-clause-err g c =
    let known : IsKnown c.args.self.now = subst IsKnown c.self.view_is c.known.ensures in
    let out : c.behind-job.inside.out ≡ tuple_at c.args.self.now c.args.task = ap (λ (t : TaskValue). t.out) (c.behind-job.view_is ∙ c.task.ensures) ∙ ap (λ (j : JobValue). tuple_at j c.args.task) c.self.view_is in
    (block_made c.args.self.now c.args.task known.first known.second known.pair (listed_tuple c.args.self.now c.args.task known.pair c.requires).admissible.tuple c.deref.result.now (c.deref.ensures.value ∙ c.in_ok-sources.ensures.value) c.size-size.result c.size-size.ensures.value c.behind-job.inside.out out
    c.block_from.result c.block_from.ensures.block c.block_from.ensures.clear c.block_from.ensures.err c.block_from.new.steps c.args.steps.now c.block_from.ensures.steps).err

pub returns-clause-steps : goal.returns-clause-steps
returns-clause-steps g c =
    let known : IsKnown c.args.self.now = subst IsKnown c.self.view_is c.known.ensures in
    let out : c.behind-job.inside.out ≡ tuple_at c.args.self.now c.args.task = ap (λ (t : TaskValue). t.out) (c.behind-job.view_is ∙ c.task.ensures) ∙ ap (λ (j : JobValue). tuple_at j c.args.task) c.self.view_is in
    (block_made c.args.self.now c.args.task known.first known.second known.pair (listed_tuple c.args.self.now c.args.task known.pair c.requires).admissible.tuple c.deref.result.now (c.deref.ensures.value ∙ c.in_ok-sources.ensures.value) c.size-size.result c.size-size.ensures.value c.behind-job.inside.out out
    c.block_from.result c.block_from.ensures.block c.block_from.ensures.clear c.block_from.ensures.err c.block_from.new.steps c.args.steps.now c.block_from.ensures.steps).steps_are

pub block_from-requires-clause-sources : goal.block_from-requires-clause-sources
block_from-requires-clause-sources g c = subst (λ q. q) (λ i. AreSources (sym c.size-size.ensures.value i) (sym c.deref.ensures.value i)) c.in_ok-sources.ensures.small
