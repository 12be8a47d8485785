-- Laws of the task machine.
use Rattle.std.specs.Prelude.{ℕ, ◌+◌, ◌^◌, ◌<◌, ◌≤◌, ◌≡◌, List, Some}
use Rattle.qn_board.specs.declared.event.Event.{Event}
use Rattle.qn_board.specs.declared.event.Event.TheVariants.{Draw}
use Rattle.qn_board.specs.declared.event.Reply.{Reply}
use Rattle.qn_board.specs.declared.event.Reply.TheVariants.{Task}
use Rattle.qn_board.specs.Seats.{SeatValue, seat_at}
use Rattle.qn_board.specs.Machine.{Machine, first, IsTransition, Runs}
use Rattle.qn_board.specs.Sound.{IsSound, IsUndrawn, IsFinished, IsDecided}

-- each first state is sound
abbrev pub StartsSound : Type 0
StartsSound = (n w : ℕ) → n ≤ 2 ^ 32 → 1 ≤ w → w ≤ 2 ^ 32 → IsSound (first n w)

-- each event leaves a sound state sound
abbrev pub StaysSound : Type 0
StaysSound = (m : Machine) (e : Event) (r : Reply) (m' : Machine) → IsSound m → IsTransition m e r m' → IsSound m'

-- so does each list of events whose needs are met
abbrev pub RunsSound : Type 0
RunsSound = (m : Machine) (es : List Event) (m' : Machine) → IsSound m → Runs m es m' → IsSound m'

-- an event has one answer and leaves one state
abbrev pub IsDeterministic : Type 0
IsDeterministic = (m : Machine) (e : Event) (r q : Reply) (m' m'' : Machine) → IsTransition m e r m' → IsTransition m e q m'' → (q ≡ r) × (m'' ≡ m')

-- a draw answers a task that no live seat drew before
abbrev pub DrawsOnce : Type 0
DrawsOnce = (m : Machine) (k t : ℕ) (m' : Machine) → IsSound m → IsTransition m (Draw k) (Task t) m' → (t < m.n) × IsUndrawn m t

-- the next number is at most n and the whole weight together
abbrev pub NextIsBounded : Type 0
NextIsBounded = (m : Machine) → IsSound m → m.next ≤ m.n + m.whole

-- where a seat spent anything, no task is left
abbrev pub SpentShowsEnd : Type 0
SpentShowsEnd = (m : Machine) (k : ℕ) (s : SeatValue) → IsSound m → seat_at m.seats k ≡ Some s → 0 < s.spent → m.n ≤ m.next

-- a seat of the whole weight is the only live one
abbrev pub WholeIsAlone : Type 0
WholeIsAlone = (m : Machine) (k j : ℕ) (s u : SeatValue) → IsSound m → seat_at m.seats k ≡ Some s → seat_at m.seats j ≡ Some u → s.weight ≡ m.whole → j ≡ k

-- a finished state decides which task is the least that passes
abbrev pub FinishDecides : Type 0
FinishDecides = (m : Machine) (k : ℕ) (s : SeatValue) (done passing : List ℕ) → IsSound m → seat_at m.seats k ≡ Some s → IsFinished m done passing s → IsDecided m done passing s
