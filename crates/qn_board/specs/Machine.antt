-- The task machine: its state, and what each event needs, answers and changes. What an event does not name stays.
use Rattle.std.specs.Prelude.{ℕ, ◌+◌, ◌-◌, ◌<◌, ◌≤◌, ◌≡◌, ◌≢◌, List, [], ◌∷◌, ◌++◌, cond, nat_lt, min, set, take, length, Option, Some, None}
use Rattle.std.specs.List.{HoldsAt}
use Rattle.qn_board.specs.declared.event.Event.{Event}
use Rattle.qn_board.specs.declared.event.Event.TheVariants.{Draw, Note, Look, Split, Join}
use Rattle.qn_board.specs.declared.event.Reply.{Reply}
use Rattle.qn_board.specs.declared.event.Reply.TheVariants.{Task, Empty, Least, Seat, Joined}
use Rattle.qn_board.specs.declared.event.RunFault.{RunFault}
use Rattle.qn_board.specs.declared.event.RunFault.TheVariants.{Needs, Memory}
use Rattle.qn_board.specs.Lists.{IsIn, greatest}
use Rattle.qn_board.specs.Seats.{SeatValue, seat_at}

-- the number of tasks, the weight of all live seats together, the next number, the least noted number, and the seats by number
pub record Machine : Type 0 where
  pub n : ℕ
  pub whole : ℕ
  pub next : ℕ
  pub least : ℕ
  pub seats : List (Option SeatValue)

-- a seat of this weight that has done nothing
abbrev pub first_seat : ℕ → SeatValue
first_seat w = record { weight = w; spent = 0; drawn = []; noted = []; seen = greatest }

-- the first state: no number is drawn, and seat 0 has the whole weight
abbrev pub first : ℕ → ℕ → Machine
first n w = record { n = n; whole = w; next = 0; least = greatest; seats = Some (first_seat w) ∷ [] }

-- a draw: the next number joins the drawn ones where it is a task, and else one unit of weight is spent
abbrev pub seat_drawn : Machine → SeatValue → SeatValue
seat_drawn m s = cond (nat_lt m.next m.n) (record s { drawn = s.drawn ++ m.next ∷ [] }) (record s { spent = s.spent + 1 })

abbrev pub after_draw : Machine → ℕ → SeatValue → Machine
after_draw m k s = record m { next = m.next + 1; seats = set m.seats k (Some (seat_drawn m s)) }

abbrev pub draw_reply : Machine → Reply
draw_reply m = cond (nat_lt m.next m.n) (Task m.next) Empty

-- a note: the number joins the noted ones, and the seat sees the lesser of it and the least number noted so far
abbrev pub seat_noted : Machine → SeatValue → ℕ → SeatValue
seat_noted m s t = record s { noted = s.noted ++ t ∷ []; seen = min m.least t }

abbrev pub after_note : Machine → ℕ → SeatValue → ℕ → Machine
after_note m k s t = record m { least = min m.least t; seats = set m.seats k (Some (seat_noted m s t)) }

-- a look: the seat sees the least number noted
abbrev pub after_look : Machine → ℕ → SeatValue → Machine
after_look m k s = record m { seats = set m.seats k (Some (record s { seen = m.least })) }

-- a split: the seat keeps all but the weight that it gives, and the new seat, whose number was never used, has that weight and the same bound
abbrev pub seat_left : SeatValue → ℕ → SeatValue
seat_left s g = record s { weight = s.weight - g }

abbrev pub seat_given : SeatValue → ℕ → SeatValue
seat_given s g = record { weight = g; spent = 0; drawn = []; noted = []; seen = s.seen }

abbrev pub after_split : Machine → ℕ → SeatValue → ℕ → Machine
after_split m k s g = record m { seats = set m.seats k (Some (seat_left s g)) ++ Some (seat_given s g) ∷ [] }

-- a join: weights, spent numbers and lists are put together, the bound is the lesser one, and the other seat is live no more
abbrev pub seat_joined : SeatValue → SeatValue → SeatValue
seat_joined s o = record { weight = s.weight + o.weight; spent = s.spent + o.spent; drawn = s.drawn ++ o.drawn; noted = s.noted ++ o.noted; seen = min s.seen o.seen }

abbrev pub after_join : Machine → ℕ → SeatValue → ℕ → SeatValue → Machine
after_join m k s l o = record m { seats = set (set m.seats k (Some (seat_joined s o))) l None }

-- in the first state the event's needs are met; it answers r and leaves the second state
abbrev pub IsTransition : Machine → Event → Reply → Machine → Type 0
IsTransition m (Draw k) r m' = (s : SeatValue) × (seat_at m.seats k ≡ Some s) × (s.spent < s.weight) × (r ≡ draw_reply m) × (m' ≡ after_draw m k s)
IsTransition m (Note k t) r m' = (s : SeatValue) × (seat_at m.seats k ≡ Some s) × IsIn t s.drawn × (r ≡ Least (min m.least t)) × (m' ≡ after_note m k s t)
IsTransition m (Look k) r m' = (s : SeatValue) × (seat_at m.seats k ≡ Some s) × (r ≡ Least m.least) × (m' ≡ after_look m k s)
IsTransition m (Split k g) r m' = (s : SeatValue) × (seat_at m.seats k ≡ Some s) × (1 ≤ g) × (g < s.weight - s.spent) × (r ≡ Seat (length m.seats)) × (m' ≡ after_split m k s g)
IsTransition m (Join k l) r m' = (s : SeatValue) × (o : SeatValue) × (seat_at m.seats k ≡ Some s) × (seat_at m.seats l ≡ Some o) × (l ≢ k) × (r ≡ Joined) × (m' ≡ after_join m k s l o)

-- the event's needs are met
abbrev pub IsMet : Machine → Event → Type 0
IsMet m e = (r : Reply) × (m' : Machine) × IsTransition m e r m'

-- the events lead from the first state to the second, each with its needs met
abbrev pub Runs : Machine → List Event → Machine → Type 0
Runs m [] m' = m' ≡ m
Runs m (e ∷ es) m' = (r : Reply) × (between : Machine) × IsTransition m e r between × Runs between es m'

-- event i, counted from 0, is the first whose needs are not met; want of memory may come at any event
abbrev pub IsRunFault : Machine → List Event → RunFault → Type 0
IsRunFault m es (Needs i) = (before : Machine) × (i < length es) × Runs m (take i es) before × HoldsAt (λ (e : Event). ¬ IsMet before e) es i
IsRunFault m es Memory = Unit {0}
