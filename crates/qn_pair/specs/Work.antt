-- What a worker does that draws tasks of a contraction from a board.
use Rattle.std.specs.Prelude.{◌≡◌, ℕ, ◌+◌, ◌<◌, ◌≤◌, List, [], ◌∷◌, ◌++◌, map, length}
use Rattle.std.specs.List.{All}
use Rattle.qn_value.specs.Tensors.{BlockValue}
use Rattle.qn_block.specs.Blocked.{BlockedValue}
use Rattle.qn_match.specs.Pairs.{TaskValue, tasks, IsPair}
use Rattle.qn_board.specs.Lists.{occurrences, IsIn}
use Rattle.qn_board.specs.Seats.{SeatValue}
use Rattle.qn_board.specs.Board.{BoardValue, SeatOnBoard}
use Rattle.qn_pair.specs.Jobs.{JobValue, Passes, task_block}

-- what a worker asks for: two tensors that can be contracted, the list of all tasks, and a seat with unspent weight on a board of as many tasks
pub record IsReady (a b : BlockedValue) (shared : List (ℕ × ℕ)) (list : List TaskValue) (board : BoardValue) (seat : SeatOnBoard) : Type 0 where
  pub pair : IsPair a b shared
  pub tasks_are : list ≡ tasks a b shared
  pub here : seat.board ≡ board
  pub unspent : seat.state.spent < seat.state.weight
  pub count : board.n ≡ length list

-- blocks with the numbers of their tasks
abbrev pub numbers : List (ℕ × BlockValue) → List ℕ
numbers ds = map (λ d. d.0) ds

-- a result: the block of a drawn task that does not pass
pub record IsResult (j : JobValue) (drawn : List ℕ) (d : ℕ × BlockValue) : Type 0 where
  pub drawn_it : IsIn d.0 drawn
  pub clear : ¬ Passes j d.0
  pub block : d.1 ≡ task_block j d.0

-- the seat after the work: its weight is as before, its bound at most what it was, and its lists have grown by these numbers, of which the noted ones are of drawn tasks that pass
pub record IsWorked (j : JobValue) (before after : SeatValue) (new gained : List ℕ) : Type 0 where
  pub weight : after.weight ≡ before.weight
  pub seen : after.seen ≤ before.seen
  pub drawn : after.drawn ≡ before.drawn ++ new
  pub noted : after.noted ≡ before.noted ++ gained
  pub passing : (t : ℕ) → IsIn t gained → IsIn t new × Passes j t

-- every new number is noted, has a result, or is above the bound
abbrev pub IsCovered : List ℕ → List ℕ → List (ℕ × BlockValue) → ℕ → Type 0
IsCovered new gained ds seen = (t : ℕ) → IsIn t new → occurrences t gained ≡ 0 → occurrences t (numbers ds) ≡ 0 → seen < t

-- each number is below those that follow it
abbrev pub IsAscending : List ℕ → Type 0
IsAscending [] = Unit {0}
IsAscending (x ∷ xs) = ((y : ℕ) → IsIn y xs → x < y) × IsAscending xs

-- what a worker brings back once its own draw has found no task left
pub record IsDone (j : JobValue) (before after : SeatValue) (new gained : List ℕ) (ds : List (ℕ × BlockValue)) : Type 0 where
  pub spent : after.spent ≡ before.spent + 1
  pub results : All (IsResult j new) ds
  pub covered : IsCovered new gained ds after.seen
  pub ascending : IsAscending (numbers ds)

-- what a drawn task did to its seat: it noted these numbers, of which there is at most that of the task, where the task passes
pub record IsTouched (j : JobValue) (before after : SeatValue) (t : ℕ) (gained : List ℕ) : Type 0 where
  pub kept : after ≡ record before { noted = before.noted ++ gained; seen = after.seen }
  pub seen : after.seen ≤ before.seen
  pub passing : (x : ℕ) → IsIn x gained → (t ≡ x) × Passes j x

-- what became of a drawn task: it was noted, or has a result, or is above the bound
pub record IsOne (j : JobValue) (t seen : ℕ) (gained : List ℕ) (more : List (ℕ × BlockValue)) : Type 0 where
  pub results : All (IsResult j (t ∷ [])) more
  pub covered : occurrences t gained ≡ 0 → occurrences t (numbers more) ≡ 0 → seen < t
  pub ascending : IsAscending (numbers more)
