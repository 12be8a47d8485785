use Rattle.std.proofs.Common.{◌≡◌, ◌<◌, ◌∙◌, ℕ, sym, ap, subst, lit<, arith, length}
use Rattle.std.specs.List.{All}
use Rattle.qn_index.specs.Tuples.{IsTuple}
use Rattle.qn_value.specs.Tensors.{BlockValue}
use Rattle.qn_match.specs.Pairs.{TaskValue, pairs_for}
use Rattle.qn_pair.specs.Jobs.{JobValue, IsKnown, ArePriced, tuple_at}
use Rattle.qn_pair.proofs.Products.{products_are, products_small}
use Rattle.qn_pair.proofs.Tasks.{first_there}
use Rattle.qn_pair.proofs.frame.Frame.products_of_task.Goals as goal

pub products_of-requires : goal.products_of-requires
products_of-requires g c =
    let v : JobValue = record { first = c.job.inside.first.now; second = c.job.inside.second.now; shared = c.job.inside.shared.now; between = c.job.inside.between_odd } in
    let e : v ≡ c.args.self.now = c.job.view_is ∙ c.self.view_is in
    let known : IsKnown c.args.self.now = subst IsKnown c.self.view_is c.known.ensures in
    let priced : ArePriced c.args.self.now = subst ArePriced c.self.view_is c.priced.ensures in
    let pairs : c.deref.result.now ≡ pairs_for c.args.self.now.shared c.args.self.now.first.blocks c.args.self.now.second.blocks (tuple_at c.args.self.now c.args.task) =
    c.deref.ensures.value ∙ ap (λ (t : TaskValue). t.pairs) (c.task.view_is ∙ c.task-task.ensures) ∙ ap (λ (j : JobValue). pairs_for j.shared j.first.blocks j.second.blocks (tuple_at j c.args.task)) c.self.view_is in
    let legs : c.legs.result.now ≡ c.args.self.now.first.legs = c.legs.ensures ∙ ap (λ (j : JobValue). j.first.legs) e in
    let blocks : c.blocks-2.result.now ≡ c.args.self.now.first.blocks = c.blocks-2.ensures ∙ ap (λ (j : JobValue). j.first.blocks) e in
    let shared : c.job.inside.shared.now ≡ c.args.self.now.shared = ap (λ (j : JobValue). j.shared) e in
    let all = products_are c.args.self.now c.args.task known.pair c.size-size.result c.legs.result.now c.blocks-2.result.now c.job.inside.shared.now c.deref.result.now c.size-size.ensures.value legs blocks shared pairs in
    let small = products_small c.args.self.now c.args.task priced c.requires in
    let places : All (λ p. p.0 < length c.legs.result.now) c.job.inside.shared.now =
    subst (λ q. q) (λ i. All (λ (p : ℕ × ℕ). p.0 < length (sym legs i)) (sym shared i)) known.pair.shapes.legs.first in
    let own : All (λ (b : BlockValue). IsTuple c.args.self.now.first.legs b.tuple) c.args.self.now.first.blocks = λ k d lt. (known.first.blocks k d lt).tuple in
    let tuples : All (λ (b : BlockValue). IsTuple c.legs.result.now b.tuple) c.blocks-2.result.now = subst (λ q. q) (λ i. All (λ (b : BlockValue). IsTuple (sym legs i) b.tuple) (sym blocks i)) own in
    let there : All (λ p. p.0 < length c.blocks-2.result.now) c.deref.result.now =
    subst (λ q. q) (λ i. All (λ (p : ℕ × ℕ). p.0 < length (sym blocks i)) (sym pairs i)) (first_there c.args.self.now.shared c.args.self.now.first.blocks c.args.self.now.second.blocks (tuple_at c.args.self.now c.args.task)) in
    (lit< tt, (places, (tuples, (there, omega (arith, all, small)))))

pub returns-clause-value : goal.returns-clause-value
returns-clause-value g c =
    let v : JobValue = record { first = c.job.inside.first.now; second = c.job.inside.second.now; shared = c.job.inside.shared.now; between = c.job.inside.between_odd } in
    let e : v ≡ c.args.self.now = c.job.view_is ∙ c.self.view_is in
    let known : IsKnown c.args.self.now = subst IsKnown c.self.view_is c.known.ensures in
    let priced : ArePriced c.args.self.now = subst ArePriced c.self.view_is c.priced.ensures in
    let pairs : c.deref.result.now ≡ pairs_for c.args.self.now.shared c.args.self.now.first.blocks c.args.self.now.second.blocks (tuple_at c.args.self.now c.args.task) =
    c.deref.ensures.value ∙ ap (λ (t : TaskValue). t.pairs) (c.task.view_is ∙ c.task-task.ensures) ∙ ap (λ (j : JobValue). pairs_for j.shared j.first.blocks j.second.blocks (tuple_at j c.args.task)) c.self.view_is in
    let legs : c.legs.result.now ≡ c.args.self.now.first.legs = c.legs.ensures ∙ ap (λ (j : JobValue). j.first.legs) e in
    let blocks : c.blocks-2.result.now ≡ c.args.self.now.first.blocks = c.blocks-2.ensures ∙ ap (λ (j : JobValue). j.first.blocks) e in
    let shared : c.job.inside.shared.now ≡ c.args.self.now.shared = ap (λ (j : JobValue). j.shared) e in
    let all = products_are c.args.self.now c.args.task known.pair c.size-size.result c.legs.result.now c.blocks-2.result.now c.job.inside.shared.now c.deref.result.now c.size-size.ensures.value legs blocks shared pairs in
    let small = products_small c.args.self.now c.args.task priced c.requires in
    c.products_of.ensures ∙ all

pub returns-clause-small : goal.returns-clause-small
returns-clause-small g c =
    let v : JobValue = record { first = c.job.inside.first.now; second = c.job.inside.second.now; shared = c.job.inside.shared.now; between = c.job.inside.between_odd } in
    let e : v ≡ c.args.self.now = c.job.view_is ∙ c.self.view_is in
    let known : IsKnown c.args.self.now = subst IsKnown c.self.view_is c.known.ensures in
    let priced : ArePriced c.args.self.now = subst ArePriced c.self.view_is c.priced.ensures in
    let pairs : c.deref.result.now ≡ pairs_for c.args.self.now.shared c.args.self.now.first.blocks c.args.self.now.second.blocks (tuple_at c.args.self.now c.args.task) =
    c.deref.ensures.value ∙ ap (λ (t : TaskValue). t.pairs) (c.task.view_is ∙ c.task-task.ensures) ∙ ap (λ (j : JobValue). pairs_for j.shared j.first.blocks j.second.blocks (tuple_at j c.args.task)) c.self.view_is in
    let legs : c.legs.result.now ≡ c.args.self.now.first.legs = c.legs.ensures ∙ ap (λ (j : JobValue). j.first.legs) e in
    let blocks : c.blocks-2.result.now ≡ c.args.self.now.first.blocks = c.blocks-2.ensures ∙ ap (λ (j : JobValue). j.first.blocks) e in
    let shared : c.job.inside.shared.now ≡ c.args.self.now.shared = ap (λ (j : JobValue). j.shared) e in
    let all = products_are c.args.self.now c.args.task known.pair c.size-size.result c.legs.result.now c.blocks-2.result.now c.job.inside.shared.now c.deref.result.now c.size-size.ensures.value legs blocks shared pairs in
    let small = products_small c.args.self.now c.args.task priced c.requires in
    omega (arith, c.products_of.ensures, all, small)
