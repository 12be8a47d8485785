-- A worked list of events on two tasks with weight 2: both are done, and task 1 passes.
use Rattle.std.specs.Prelude.{List, [], ◌∷◌, Some, None}
use Rattle.qn_board.specs.declared.event.Event.{Event}
use Rattle.qn_board.specs.declared.event.Event.TheVariants.{Draw, Note, Look, Split, Join}
use Rattle.qn_board.specs.Seats.{SeatValue}
use Rattle.qn_board.specs.Machine.{Machine, first, Runs}
use Rattle.qn_board.specs.Sound.{IsFinished}

abbrev pub worked_events : List Event
worked_events = Split 0 1 ∷ Draw 0 ∷ Draw 1 ∷ Note 1 1 ∷ Look 0 ∷ Draw 0 ∷ Draw 1 ∷ Join 0 1 ∷ []

-- the seat at the end: it drew both tasks, noted the second, and spent its whole weight
abbrev pub worked_seat : SeatValue
worked_seat = record { weight = 2; spent = 2; drawn = 0 ∷ 1 ∷ []; noted = 1 ∷ []; seen = 1 }

abbrev pub worked_end : Machine
worked_end = record { n = 2; whole = 2; next = 4; least = 1; seats = Some worked_seat ∷ None ∷ [] }

-- the events lead to this end, which is finished: tasks 0 and 1 are done, and 1 passes
pub record IsWorked : Type 0 where
  pub runs : Runs (first 2 2) worked_events worked_end
  pub finished : IsFinished worked_end (0 ∷ 1 ∷ []) (1 ∷ []) worked_seat
