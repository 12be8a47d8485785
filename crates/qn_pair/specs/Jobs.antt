-- A contraction and its tasks: the admissible tuples of the result, ascending, numbered from 0.
use Rattle.std.specs.Prelude.{◌≡◌, ◌≤◌, ◌^◌, ℕ, length, Bool, ◌&&◌, Option, Some, List, [], slice_index_or}
use Rattle.std.specs.List.{sum_by}
use Rattle.qn_charge.specs.Charges.{parity}
use Rattle.qn_index.specs.Legs.{LegValue}
use Rattle.qn_index.specs.Tuples.{admitted}
use Rattle.qn_value.specs.Tensors.{BlockValue}
use Rattle.qn_value.specs.Local.{pair_entry}
use Rattle.qn_value.specs.Magnitudes.{Place, block_at}
use Rattle.qn_block.specs.Blocked.{BlockedValue, IsBlocked, tensor_of}
use Rattle.qn_board.specs.Lists.{occurrences, once_below}
use Rattle.qn_match.specs.Pairs.{TaskValue, task_for, tasks, pairs_for, IsPair}
use Rattle.qn_match.specs.Cost.{cost_of}
use Rattle.qn_match.specs.Shares.{share_of, products_of}
use Rattle.qn_kernel.specs.Sources.{SourceValue, sources, IsFrame}
use Rattle.qn_pair.specs.Steps.{result_legs, result_flux, passing_in, passing_place}

-- a contraction: two tensors, the shared pairs of their legs, and whether what stands between the two is odd
pub record JobValue : Type 0 where
  pub first : BlockedValue
  pub second : BlockedValue
  pub shared : List (ℕ × ℕ)
  pub between : Bool

abbrev pub job : BlockedValue → BlockedValue → List (ℕ × ℕ) → Bool → JobValue
job a b shared between = record { first = a; second = b; shared = shared; between = between }

-- the two tensors can be contracted, and these are all tasks
pub record IsJob (a b : BlockedValue) (shared : List (ℕ × ℕ)) (list : List TaskValue) : Type 0 where
  pub pair : IsPair a b shared
  pub tasks_are : list ≡ tasks a b shared

-- the legs of the result
abbrev pub legs_of : JobValue → List LegValue
legs_of j = result_legs j.first j.second j.shared

-- the tuples of the tasks, and that of one by its number
abbrev pub tuples_of : JobValue → List (List ℕ)
tuples_of j = admitted j.first.group (legs_of j) (result_flux j.first j.second)

abbrev pub tuple_at : JobValue → ℕ → List ℕ
tuple_at j t = slice_index_or (tuples_of j) t []

-- the block of a task
abbrev pub task_block : JobValue → ℕ → BlockValue
task_block j t = block_at (pair_entry (tensor_of j.first) (tensor_of j.second) j.shared j.between) (legs_of j) (tuple_at j t)

-- a task passes: at some entry of its block the sum of magnitudes is above 2^127 - 1
abbrev pub Passes : JobValue → ℕ → Type 0
Passes j t = (o : ℕ) × (passing_in j.first j.second j.shared (tuple_at j t) ≡ Some o)

-- the pairs of blocks that are multiplied for a task, and how many products of single entries they take
abbrev pub sources_at : JobValue → ℕ → List SourceValue
sources_at j t =
    sources j.first.group j.first.legs j.second.legs j.shared (j.between && parity j.second.group j.second.flux) (legs_of j) (tuple_at j t) j.first.blocks j.second.blocks
    (pairs_for j.shared j.first.blocks j.second.blocks (tuple_at j t))

abbrev pub products_at : JobValue → ℕ → ℕ
products_at j t = products_of j.first j.second j.shared (task_for j.shared j.first.blocks j.second.blocks (tuple_at j t))

-- the share of a task in the cost
abbrev pub share_at : JobValue → ℕ → ℕ
share_at j t = share_of j.first.group j.first.legs j.first.flux j.second.legs j.second.flux j.shared (tuple_at j t)

-- the lists that all blocks of a contraction have in common
pub record AreLists (a b : BlockedValue) (shared : List (ℕ × ℕ)) (word : List LegValue) (goal places : List ℕ) (left : List LegValue) : Type 0 where
  pub frame : IsFrame a.legs b.legs shared word goal places left
  pub left_is : left ≡ result_legs a b shared

-- the cost of all tasks, and the first passing place of the result
abbrev pub cost_of_job : JobValue → ℕ
cost_of_job j = cost_of j.first.group j.first.legs j.first.flux j.second.legs j.second.flux j.shared

abbrev pub passing_of_job : JobValue → Option Place
passing_of_job j = passing_place j.first j.second j.shared

-- both tensors are as any two, and can be contracted
pub record IsKnown (j : JobValue) : Type 0 where
  pub first : IsBlocked j.first
  pub second : IsBlocked j.second
  pub pair : IsPair j.first j.second j.shared

-- each task takes at most its share, and the shares of tasks, each taken once at most, add up to at most the cost, which is small
pub record ArePriced (j : JobValue) : Type 0 where
  pub each : (t : ℕ) → products_at j t ≤ share_at j t
  pub all : (ts : List ℕ) → ((t : ℕ) → occurrences t ts ≤ once_below t (length (tuples_of j))) → sum_by (share_at j) ts ≤ cost_of_job j
  pub small : cost_of_job j ≤ 2 ^ 44
