-- What all workers of a contraction bring back together.
use Rattle.std.specs.Prelude.{◌≡◌, ℕ, ◌<◌, ◌≤◌, Bool, not, Option, Some, None, cond, true, false, List, [], ◌∷◌, map, filter, length}
use Rattle.std.specs.List.{All, sum_by}
use Rattle.qn_sign.specs.Positions.{positions}
use Rattle.qn_value.specs.Tensors.{BlockValue}
use Rattle.qn_board.specs.Lists.{IsIn}
use Rattle.qn_board.specs.Seats.{SeatValue}
use Rattle.qn_match.specs.Pairs.{pairs_for}
use Rattle.qn_pair.specs.Jobs.{JobValue, tuples_of, tuple_at, task_block, Passes, share_at}
use Rattle.qn_pair.specs.Work.{numbers, IsResult, IsCovered}

-- a seat that has done nothing
pub record IsFresh (weight : ℕ) (s : SeatValue) : Type 0 where
  pub weight_is : s.weight ≡ weight
  pub spent : s.spent ≡ 0
  pub drawn : s.drawn ≡ []
  pub noted : s.noted ≡ []

-- a seat after the work of the workers that shared its weight, and the number that bounds their steps
pub record IsShared (j : JobValue) (weight : ℕ) (s : SeatValue) (cost : ℕ) : Type 0 where
  pub weight_is : s.weight ≡ weight
  pub passing : (t : ℕ) → IsIn t s.noted → IsIn t s.drawn × Passes j t
  pub price : cost ≤ sum_by (share_at j) s.drawn

-- the results of workers that all found no task left
pub record IsAll (j : JobValue) (s : SeatValue) (ds : List (ℕ × BlockValue)) : Type 0 where
  pub spent : s.spent ≡ s.weight
  pub results : All (IsResult j s.drawn) ds
  pub covered : IsCovered s.drawn s.noted ds s.seen

-- the results of all tasks
pub record IsComplete (j : JobValue) (ds : List (ℕ × BlockValue)) : Type 0 where
  pub every : (t : ℕ) → t < length (tuples_of j) → IsIn t (numbers ds)
  pub right : All (λ d. (d.0 < length (tuples_of j)) × (d.1 ≡ task_block j d.0)) ds

-- some pair of blocks is multiplied for the block of a task; without one all its entries are 0
abbrev pub is_empty : {A : Type 0} → List A → Bool
is_empty [] = true
is_empty (x ∷ xs) = false

abbrev pub has_pairs : JobValue → BlockValue → Bool
has_pairs j b = not (is_empty (pairs_for j.shared j.first.blocks j.second.blocks b.tuple))

-- the blocks that the result keeps
abbrev pub kept_blocks : JobValue → List BlockValue
kept_blocks j = filter (has_pairs j) (map (task_block j) (positions (length (tuples_of j))))

-- what is kept of a task's block
abbrev pub slot_of : JobValue → ℕ → Option BlockValue
slot_of j t = cond (is_empty (pairs_for j.shared j.first.blocks j.second.blocks (tuple_at j t))) None (Some (task_block j t))

-- the least task that passes
pub record IsFirst (j : JobValue) (t : ℕ) : Type 0 where
  pub task : t < length (tuples_of j)
  pub passes : Passes j t
  pub before : (u : ℕ) → u < t → ¬ Passes j u

-- the least task that passes, or none and the blocks of all tasks
pub record IsClear (j : JobValue) (ds : List (ℕ × BlockValue)) : Type 0 where
  pub complete : IsComplete j ds
  pub clear : (t : ℕ) → t < length (tuples_of j) → ¬ Passes j t

abbrev pub IsOutcome : JobValue → Option ℕ → List (ℕ × BlockValue) → Type 0
IsOutcome j None ds = IsClear j ds
IsOutcome j (Some t) ds = IsFirst j t
