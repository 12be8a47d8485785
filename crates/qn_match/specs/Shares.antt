-- What the tasks of a contraction have of its cost.
-- Source: Singh, Pfeifer and Vidal 2010.
use Rattle.std.specs.Prelude.{◌≡◌, ◌≤◌, ◌*◌, ℕ, ℤ, cond, List, [], ◌∷◌, slice_index_or}
use Rattle.std.specs.List.{sum_by}
use Rattle.qn_charge.specs.declared.factor.Factor.{Factor}
use Rattle.qn_index.specs.Legs.{LegValue, sector_at}
use Rattle.qn_index.specs.Tuples.{admitted}
use Rattle.qn_index.specs.Places.{block_size}
use Rattle.qn_value.specs.Local.{no_leg, open_legs, shared_couples}
use Rattle.qn_value.specs.Tensors.{TensorValue}
use Rattle.qn_block.specs.Blocked.{BlockedValue, IsBlocked}
use Rattle.qn_block.specs.Refusals.{block_at}
use Rattle.qn_match.specs.Pairs.{joined, give, TaskValue, task_for, tasks, IsPair, IsShared}
use Rattle.qn_match.specs.Cost.{pair_size, cost_of}

-- the number of values of the shared legs in a tuple of the first tensor
abbrev pub shared_size : List (ℕ × ℕ) → List LegValue → List ℕ → ℕ
shared_size [] ks t = 1
shared_size (p ∷ ps) ks t = (sector_at (slice_index_or ks p.0 no_leg).sectors (slice_index_or t p.0 0)).dim * shared_size ps ks t

-- the share of a tuple of the result in the cost: the part of the sum whose pairs give this tuple
abbrev pub share_of : List Factor → List LegValue → List ℤ → List LegValue → List ℤ → List (ℕ × ℕ) → List ℕ → ℕ
share_of fs ks p ls q shared out = sum_by (λ t. sum_by (λ u. cond (give shared out t u) (pair_size shared ks ls t u) 0) (admitted fs ls q)) (admitted fs ks p)

-- the products of single entries that a task takes: for each pair of its blocks one for each entry of the result and each list of values of the shared legs
abbrev pub products_of : BlockedValue → BlockedValue → List (ℕ × ℕ) → TaskValue → ℕ
products_of a b shared task = sum_by (λ p. block_size (joined shared a.legs b.legs) task.out * shared_size shared a.legs (block_at a.blocks p.0).tuple) task.pairs

-- a task takes at most its share
abbrev pub TaskWithinShare : Type 0
TaskWithinShare =
    (a b : BlockedValue) (shared : List (ℕ × ℕ)) (out : List ℕ) → IsBlocked a → IsBlocked b → IsPair a b shared →
    products_of a b shared (task_for shared a.blocks b.blocks out) ≤ share_of a.group a.legs a.flux b.legs b.flux shared out

-- the shares of all tasks are at most the cost
abbrev pub SharesWithinCost : Type 0
SharesWithinCost =
    (a b : BlockedValue) (shared : List (ℕ × ℕ)) →
    sum_by (λ task. share_of a.group a.legs a.flux b.legs b.flux shared task.out) (tasks a b shared) ≤ cost_of a.group a.legs a.flux b.legs b.flux shared

-- the legs that are left are those of the two tensors that stand in no shared pair
abbrev pub LegsLeftAreOpen : Type 0
LegsLeftAreOpen =
    (a b : TensorValue) (shared : List (ℕ × ℕ)) → IsShared a.legs b.legs shared →
    joined shared a.legs b.legs ≡ open_legs (a ∷ b ∷ []) (shared_couples a shared)
