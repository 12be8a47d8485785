-- Sound states of the task machine, and what the last state says once all weight is spent.
use Rattle.std.specs.Prelude.{ℕ, ◌-◌, ◌^◌, ◌<◌, ◌≤◌, ◌≡◌, List, [], min, Some}
use Rattle.qn_board.specs.Lists.{occurrences, IsIn, once_below, IsEachBelow, greatest, least_of}
use Rattle.qn_board.specs.Seats.{SeatValue, seat_at, total, least_noted}
use Rattle.qn_board.specs.Machine.{Machine}

-- a live seat, where `least` is the least number noted by any
pub record IsSoundSeat (least : ℕ) (s : SeatValue) : Type 0 where
  -- it has weight, of which no more than all is spent
  pub positive : 1 ≤ s.weight
  pub spent : s.spent ≤ s.weight
  -- it noted only what it drew
  pub noted : (x : ℕ) → IsIn x s.noted → IsIn x s.drawn
  -- its bound is at least the least number noted, at most each number that it noted itself, and a u64
  pub above : least ≤ s.seen
  pub below : (x : ℕ) → IsIn x s.noted → s.seen ≤ x
  pub fits : s.seen ≤ greatest

pub record IsSound (m : Machine) : Type 0 where
  -- the live seats' drawn numbers are together those below min(next, n), each once
  pub drawn : (x : ℕ) → total (λ s. occurrences x s.drawn) m.seats ≡ once_below x (min m.next m.n)
  -- the live seats' spent numbers add up to what next has past n
  pub spent : total (λ s. s.spent) m.seats ≡ m.next - min m.next m.n
  -- the live seats' weights add up to the whole weight
  pub weights : total (λ s. s.weight) m.seats ≡ m.whole
  -- both sizes are small
  pub tasks : m.n ≤ 2 ^ 32
  pub few : m.whole ≤ 2 ^ 32
  pub least : m.least ≡ least_noted m.seats
  pub each : (k : ℕ) (s : SeatValue) → seat_at m.seats k ≡ Some s → IsSoundSeat m.least s

-- no live seat has drawn t
abbrev pub IsUndrawn : Machine → ℕ → Type 0
IsUndrawn m t = (k : ℕ) (s : SeatValue) → seat_at m.seats k ≡ Some s → IsIn t s.drawn → ⊥

-- The seat has the whole weight, all spent. Of two lists of tasks, `done` and `passing`, each task that is not done is
-- above the bound that the seat saw, and the seat noted just the tasks that stand in both
pub record IsFinished (m : Machine) (done passing : List ℕ) (s : SeatValue) : Type 0 where
  pub whole : s.weight ≡ m.whole
  pub spent : s.spent ≡ m.whole
  pub left : (t : ℕ) → t < m.n → occurrences t done ≡ 0 → s.seen < t
  pub noted : (t : ℕ) → IsIn t s.noted → IsIn t done × IsIn t passing
  pub kept : (t : ℕ) → IsIn t done → IsIn t passing → IsIn t s.noted
  pub tasks : (t : ℕ) → IsIn t passing → t < m.n

-- every task was drawn once, `least` is the least task that passes, and where none passes all are done
pub record IsDecided (m : Machine) (done passing : List ℕ) (s : SeatValue) : Type 0 where
  pub drawn : IsEachBelow m.n s.drawn
  pub least : m.least ≡ least_of passing
  pub all : passing ≡ [] → (t : ℕ) → t < m.n → IsIn t done
