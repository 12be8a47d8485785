use Rattle.std.proofs.Common.{rules, ◌≡◌, ◌<◌, ◌++◌, ℕ, None, Some, List, [], ◌∷◌, cond, length, append_assoc, sym, ◌∙◌, ap, subst}
use Rattle.std.specs.List.{All}
use Rattle.qn_value.specs.Tensors.{BlockValue}
use Rattle.qn_match.specs.Pairs.{TaskValue, pairs_for}
use Rattle.qn_pair.specs.Jobs.{tuples_of, tuple_at, task_block}
use Rattle.qn_pair.specs.Workers.{IsComplete, is_empty, slot_of}
use Rattle.qn_pair.proofs.Placing.{IsPlaced, placed_more, placed_all, in_middle}
use Rattle.qn_pair.proofs.result.row_of.Goals as goal

pub loop-one-preserved : goal.loop-one-preserved
loop-one-preserved g c =
    let rest : List (ℕ × BlockValue) = c.loop-one.invariant.0 in
    let items : c.loop-one.done.items ≡ c.pop.new.self.items ++ c.in-Some.one ∷ [] = c.in-Some.ensures.items in
    let whole : c.args.done.items ≡ c.pop.new.self.items ++ (c.in-Some.one ∷ rest) = c.loop-one.invariant.1 ∙ ap (λ xs. xs ++ rest) items ∙ append_assoc c.pop.new.self.items (c.in-Some.one ∷ []) rest in
    let right : (c.in-Some.one.0 < length (tuples_of c.args.job.now)) × (c.in-Some.one.1 ≡ task_block c.args.job.now c.in-Some.one.0) =
    in_middle (λ (d : ℕ × BlockValue). (d.0 < length (tuples_of c.args.job.now)) × (d.1 ≡ task_block c.args.job.now d.0)) c.pop.new.self.items rest c.in-Some.one (subst (λ (ds : List (ℕ × BlockValue)). All (λ d. (d.0 < length (tuples_of c.args.job.now)) × (d.1 ≡ task_block c.args.job.now d.0)) ds) whole c.requires.right) in
    let pairs : c.deref.result.now ≡ pairs_for c.args.job.now.shared c.args.job.now.first.blocks c.args.job.now.second.blocks (tuple_at c.args.job.now c.in-Some.one.0) = c.deref.ensures.value ∙ ap (λ (t : TaskValue). t.pairs) (c.task.view_is ∙ c.task-task.ensures) in
    let slot : c.kept.result ≡ slot_of c.args.job.now c.in-Some.one.0 = c.kept.ensures ∙ (λ i. cond (is_empty (pairs i)) None (Some (right.1 i))) in (
      c.in-Some.one ∷ rest,
      whole,
      subst (λ r. IsPlaced c.args.job.now (c.in-Some.one ∷ rest) r) (sym c.put.ensures) (placed_more c.args.job.now c.in-Some.one rest c.loop-one.row.items c.kept.result right.0 slot c.loop-one.invariant.2),
    )

pub returns : goal.returns
returns g c =
    let empty : c.loop-one.done.items ≡ [] = search (rules, c.in_default.ensures.cases) in
    let whole : c.args.done.items ≡ c.loop-one.invariant.0 = c.loop-one.invariant.1 ∙ ap (λ (xs : List (ℕ × BlockValue)). xs ++ c.loop-one.invariant.0) empty in
    placed_all c.args.job.now c.loop-one.invariant.0 c.loop-one.row.items (subst (λ (ds : List (ℕ × BlockValue)). IsComplete c.args.job.now ds) whole (record { every = c.requires.every; right = c.requires.right })) c.loop-one.invariant.2
