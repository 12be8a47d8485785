-- Seats of a task machine, by number. The number of a seat that was joined to another one has no seat.
use Rattle.std.specs.Prelude.{ℕ, zero, suc, ◌+◌, List, [], ◌∷◌, Option, Some, None, min}
use Rattle.qn_board.specs.Lists.{greatest, least_of}

-- a seat: its weight, how much of it is spent, the numbers drawn and noted, and the bound that was seen last
pub record SeatValue : Type 0 where
  pub weight : ℕ
  pub spent : ℕ
  pub drawn : List ℕ
  pub noted : List ℕ
  pub seen : ℕ

-- the live seat of a number, if there is one
abbrev pub seat_at : List (Option SeatValue) → ℕ → Option SeatValue
seat_at [] k = None
seat_at (s ∷ ss) zero = s
seat_at (s ∷ ss) (suc k) = seat_at ss k

-- f of each live seat, added up
abbrev pub total : (SeatValue → ℕ) → List (Option SeatValue) → ℕ
total f [] = 0
total f (None ∷ ss) = total f ss
total f (Some s ∷ ss) = f s + total f ss

-- the least number that a live seat noted, or the greatest u64 where none noted any
abbrev pub least_noted : List (Option SeatValue) → ℕ
least_noted [] = greatest
least_noted (None ∷ ss) = least_noted ss
least_noted (Some s ∷ ss) = min (least_of s.noted) (least_noted ss)
