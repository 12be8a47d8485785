-- The worked list of events, event by event.
use Rattle.std.proofs.Common.{ℕ, List, [], ◌∷◌, refl, arith}
use Rattle.std.proofs.lemmas.Bool.Decides.{nat_tests}
use Rattle.qn_board.specs.declared.event.Reply.TheVariants.{Task, Empty, Least, Seat, Joined}
use Rattle.qn_board.specs.Lists.{greatest}
use Rattle.qn_board.specs.Seats.{SeatValue}
use Rattle.qn_board.specs.Machine.{Machine, first, first_seat, after_draw, after_note, after_look, after_split, Runs}
use Rattle.qn_board.specs.Sound.{IsFinished}
use Rattle.qn_board.specs.Worked.{worked_events, worked_seat, worked_end, IsWorked}

-- a seat of weight 1
abbrev one : ℕ → List ℕ → List ℕ → ℕ → SeatValue
one spent drawn noted seen = record { weight = 1; spent = spent; drawn = drawn; noted = noted; seen = seen }

runs : Runs (first 2 2) worked_events worked_end
runs =
    let whole : SeatValue = first_seat 2 in
    let new : SeatValue = one 0 [] [] greatest in
    let split : Machine = after_split (first 2 2) 0 whole 1 in
    let drew : Machine = after_draw split 0 new in
    let both : Machine = after_draw drew 1 new in
    let noted : Machine = after_note both 1 (one 0 (1 ∷ []) [] greatest) 1 in
    let looked : Machine = after_look noted 0 (one 0 (0 ∷ []) [] greatest) in
    let spent : Machine = after_draw looked 0 (one 0 (0 ∷ []) [] 1) in
    let over : Machine = after_draw spent 1 (one 0 (1 ∷ []) (1 ∷ []) 1) in (
      Seat 1,
      split,
      (whole, refl, omega arith, omega arith, refl, refl),
      (
        Task 0,
        drew,
        (new, refl, omega arith, refl, refl),
        (
          Task 1,
          both,
          (new, refl, omega arith, refl, refl),
          (
            Least 1,
            noted,
            (one 0 (1 ∷ []) [] greatest, refl, omega arith, refl, refl),
            (
              Least 1,
              looked,
              (one 0 (0 ∷ []) [] greatest, refl, refl, refl),
              (
                Empty,
                spent,
                (one 0 (0 ∷ []) [] 1, refl, omega arith, refl, refl),
                (
                  Empty,
                  over,
                  (one 0 (1 ∷ []) (1 ∷ []) 1, refl, omega arith, refl, refl),
                  (
                    Joined,
                    worked_end,
                    (one 1 (0 ∷ []) [] 1, one 1 (1 ∷ []) (1 ∷ []) 1, refl, refl, (λ e. omega arith), refl, refl),
                    refl,
                  ),
                ),
              ),
            ),
          ),
        ),
      ),
    )

finished : IsFinished worked_end (0 ∷ 1 ∷ []) (1 ∷ []) worked_seat
finished = record {
  whole = refl;
  spent = refl;
  left = λ t lt none. grind (arith, nat_tests);
  noted = λ t has. (grind (arith, nat_tests), has);
  kept = λ t done passing. passing;
  tasks = λ t has. grind (arith, nat_tests);
}

pub worked : IsWorked
worked = record { runs = runs; finished = finished }
