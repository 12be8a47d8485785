-- The board that threads share: two atomic words, and the views of its seats. Between any two atomic steps they are a sound
-- state of the task machine. Word 0 is the next number, word 1 the least number noted.
use Rattle.std.specs.Prelude.{ℕ, ◌≡◌, List, length, map, cond, nat_lt, slice_index, Option, Some, None}
use mathlib.Core.Option.{some}
use lib.ListN.{get_elem?}
use Rattle.atomic_table.specs.Seated.{TableId}
use Rattle.qn_board.specs.declared.rule.View.{View}
use Rattle.qn_board.specs.declared.event.Event.{Event}
use Rattle.qn_board.specs.declared.event.Event.TheVariants.{Draw}
use Rattle.qn_board.specs.declared.event.Reply.{Reply}
use Rattle.qn_board.specs.declared.event.Reply.TheVariants.{Task, Empty}
use Rattle.qn_board.specs.Seats.{SeatValue, seat_at}
use Rattle.qn_board.specs.Machine.{Machine, first_seat, IsTransition}
use Rattle.qn_board.specs.Sound.{IsSound, IsUndrawn}

-- which board it is, how many tasks it has, and the weight of all its seats together
pub record BoardValue : Type 0 where
  pub id : TableId
  pub n : ℕ
  pub whole : ℕ

-- a seat, and the board that it is of
pub record SeatOnBoard : Type 0 where
  pub board : BoardValue
  pub state : SeatValue

-- the state of the task machine that two words and the views of the seats are
abbrev pub machine_of : ℕ → ℕ → List ℕ → List View → Machine
machine_of n w words views = record { n = n; whole = w; next = slice_index words 0; least = slice_index words 1; seats = map (λ (v : View). v.seat) views }

-- the rule of a board with n tasks and the whole weight w: its state is sound, and each live view tells both sizes
pub record IsBoard (n w : ℕ) (words : List ℕ) (views : List View) : Type 0 where
  pub two : length words ≡ 2
  pub told : (k : ℕ) (v : View) (s : SeatValue) → get_elem? views k ≡ some v → v.seat ≡ Some s → (v.n ≡ n) × (v.whole ≡ w)
  pub sound : IsSound (machine_of n w words views)

abbrev pub first_view : ℕ → ℕ → View
first_view n w = record { n = n; whole = w; seat = Some (first_seat w) }

-- the seat of a live view
abbrev pub state_in : Option SeatValue → SeatValue
state_in None = first_seat 0
state_in (Some s) = s

abbrev pub with_state : View → SeatValue → View
with_state v s = record v { seat = Some s }

-- the view of a seat that was joined to another one
abbrev pub no_view : View
no_view = record { n = 0; whole = 0; seat = None }

-- at its own step a seat's event found one sound state of the board and left another, as the task machine does
pub record IsStep (n w : ℕ) (event : ℕ → Event) (reply : Reply) (before after : SeatValue) : Type 0 where
  pub found : Machine
  pub left : Machine
  pub number : ℕ
  pub tasks : found.n ≡ n
  pub weight : found.whole ≡ w
  pub sound : IsSound found
  pub kept : IsSound left
  pub here : seat_at found.seats number ≡ Some before
  pub transition : IsTransition found (event number) reply left
  pub there : seat_at left.seats number ≡ Some after

-- at its own step a draw found a state in which no seat had drawn t, and answered t
pub record IsFirstDraw (n w : ℕ) (before after : SeatValue) (t : ℕ) : Type 0 where
  pub step : IsStep n w Draw (Task t) before after
  pub undrawn : IsUndrawn step.found t

-- the last state of a board is sound, and has this seat, this next number and this least noted number
pub record IsLastState (n w next least : ℕ) (s : SeatValue) : Type 0 where
  pub last : Machine
  pub number : ℕ
  pub tasks : last.n ≡ n
  pub weight : last.whole ≡ w
  pub next_is : last.next ≡ next
  pub least_is : last.least ≡ least
  pub sound : IsSound last
  pub here : seat_at last.seats number ≡ Some s

-- what a step tells its seat: only the seat in its view changed, by this event
abbrev pub Tells : (ℕ → Event) → Reply → View → View → Type 0
Tells event reply v w = (after : SeatValue) × (w ≡ with_state v after) × IsStep v.n v.whole event reply (state_in v.seat) after

-- the answer of a draw that found this number in word 0
abbrev pub found_reply : ℕ → ℕ → Reply
found_reply n found = cond (nat_lt found n) (Task found) Empty

-- the answer of a draw as an optional task
abbrev pub option_reply : Option ℕ → Reply
option_reply None = Empty
option_reply (Some t) = Task t
