-- The list of a contraction's tasks, by their numbers.
use Rattle.std.proofs.Common.{◌≡◌, ◌<◌, ◌≤◌, ◌^◌, ℕ, Bool, List, [], refl, sym, ◌∙◌, ap, subst, map, length, get_or, arith}
use Rattle.std.proofs.lemmas.List.{length-map, get_or_default, get_or-map}
use Rattle.std.proofs.lemmas.List.Sums.{count_by-le-length, length-filter}
use Rattle.qn_index.specs.Tuples.{admits, tuples, admitted}
use Rattle.qn_index.specs.Extents.{IsWithinLimits}
use Rattle.qn_index.proofs.Shapes.{length_tuples}
use Rattle.qn_block.proofs.Written.{IsListed, listed_at}
use Rattle.qn_match.specs.Pairs.{joined, TaskValue, task_for, IsPair}
use Rattle.qn_pair.specs.Steps.{result_flux}
use Rattle.qn_pair.specs.Jobs.{JobValue, IsJob, legs_of, tuples_of, tuple_at}
use Rattle.qn_pair.proofs.Words.{legs_left, result_is}

-- a task by its number
pub record IsTask (j : JobValue) (i : ℕ) (t : TaskValue) : Type 0 where
  pub form : t ≡ task_for j.shared j.first.blocks j.second.blocks (tuple_at j i)
  pub listed : IsListed j.first.group (legs_of j) (result_flux j.first j.second) (tuple_at j i)

pub left_same : (j : JobValue) → IsPair j.first j.second j.shared → joined j.shared j.first.legs j.second.legs ≡ legs_of j
left_same j pair = sym (result_is j.first j.second j.shared ∙ legs_left j.first.legs j.second.legs j.shared pair.shapes.legs)

pub within_limits : (j : JobValue) → IsPair j.first j.second j.shared → IsWithinLimits j.first.group (legs_of j) (result_flux j.first j.second)
within_limits j pair = subst (λ ls. IsWithinLimits j.first.group ls (result_flux j.first j.second)) (left_same j pair) pair.shapes.width

pub few_tuples : (j : JobValue) → IsPair j.first j.second j.shared → length (tuples_of j) ≤ 2 ^ 20
few_tuples j pair =
    let by : List ℕ → Bool = admits j.first.group (legs_of j) (result_flux j.first j.second) in
    omega (arith, length-filter by (tuples (legs_of j)), count_by-le-length by (tuples (legs_of j)), length_tuples (legs_of j), (within_limits j pair).tuples)

list_is : (j : JobValue) (list : List TaskValue) → IsJob j.first j.second j.shared list → list ≡ map (task_for j.shared j.first.blocks j.second.blocks) (tuples_of j)
list_is j list h = h.tasks_are ∙ ap (λ ls. map (task_for j.shared j.first.blocks j.second.blocks) (admitted j.first.group ls (result_flux j.first j.second))) (left_same j h.pair)

pub list_long : (j : JobValue) (list : List TaskValue) → IsJob j.first j.second j.shared list → length list ≡ length (tuples_of j)
list_long j list h = ap (λ (ts : List TaskValue). length ts) (list_is j list h) ∙ length-map (tuples_of j) (task_for j.shared j.first.blocks j.second.blocks)

pub listed_tuple : (j : JobValue) (i : ℕ) → IsPair j.first j.second j.shared → i < length (tuples_of j) → IsListed j.first.group (legs_of j) (result_flux j.first j.second) (tuple_at j i)
listed_tuple j i pair lt =
    listed_at j.first.group (legs_of j) (result_flux j.first j.second) (tuples_of j) i (tuple_at j i) (within_limits j pair) refl lt (get_or_default (tuples_of j) i [] (tuple_at j i) lt)

pub task_at : (j : JobValue) (list : List TaskValue) → IsJob j.first j.second j.shared list → (i : ℕ) (t : TaskValue) → i < length (tuples_of j) → t ≡ get_or list i t → IsTask j i t
task_at j list h i t lt e = record {
  form = e ∙ ap (λ (ts : List TaskValue). get_or ts i t) (list_is j list h) ∙ get_or-map (task_for j.shared j.first.blocks j.second.blocks) (tuples_of j) i [] t lt;
  listed = listed_tuple j i h.pair lt;
}
