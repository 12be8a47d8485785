-- The steps on the words and views of a board are the events of the task machine.
use Rattle.std.proofs.Common.{◌≡◌, ℕ, zero, suc, ◌+◌, ◌-◌, ◌%◌, ◌^◌, ◌<◌, ◌≤◌, ◌≢◌, List, [], ◌∷◌, ◌++◌, length, get_or, set, map, min, cond, nat_lt, true, false, Bool, refl, sym, ap, ◌∙◌, ⊎_elim, arith, subst}
use Rattle.std.specs.Prelude.{Option, Some, None, slice_index}
use mathlib.Core.Option.{some, some-ne-none, some-injective}
use lib.ListN.{get_elem?}
use Rattle.std.proofs.lemmas.Bool.{lt-ltb, le-ltb}
use Rattle.std.proofs.Math.Nat.{mod-eq_of_lt}
use Rattle.atomic_table.specs.Table.{State, Me, Allows, Splits, Joins, Seen}
use Rattle.atomic_table.specs.Table.Act.{keeps}
use Rattle.atomic_table.proofs.Lists.{at_set, at_snoc}
use Rattle.qn_board.specs.declared.rule.View.{View}
use Rattle.qn_board.specs.declared.event.Event.{Event}
use Rattle.qn_board.specs.declared.event.Event.TheVariants.{Draw, Note, Look}
use Rattle.qn_board.specs.declared.event.Reply.{Reply}
use Rattle.qn_board.specs.declared.event.Reply.TheVariants.{Task, Empty, Least}
use Rattle.qn_board.specs.Lists.{occurrences, once_below, IsIn, IsEachBelow, IsLeast, greatest, least_of}
use Rattle.qn_board.specs.Seats.{SeatValue, seat_at}
use Rattle.qn_board.specs.Machine.{Machine, seat_drawn, after_draw, draw_reply, seat_noted, after_note, after_look, seat_left, seat_given, after_split, seat_joined, after_join, IsTransition}
use Rattle.qn_board.specs.Sound.{IsSound}
use Rattle.qn_board.specs.Board.{machine_of, IsBoard, state_in, with_state, no_view, IsStep, IsFirstDraw, IsLastState, Tells, found_reply}
use Rattle.qn_board.proofs.Seating.{seat_here, seat_else, one_seat, total_part}
use Rattle.qn_board.proofs.Keeps.{drawn_below, sound_draw, sound_note, sound_look, sound_split, sound_join}
use Rattle.qn_board.proofs.Settles.{next_bound, whole_knows, draws_once}
use Rattle.qn_board.proofs.Counting.{in_first, least_of_under, least_of_member, below_less}

abbrev seats : List View → List (Option SeatValue)
seats views = map (λ (v : View). v.seat) views

seats_set : (views : List View) (id : ℕ) (v : View) → seats (set views id v) ≡ set (seats views) id v.seat
seats_set [] id v = refl
seats_set (u ∷ us) zero v = refl
seats_set (u ∷ us) (suc id) v = ap (λ xs. u.seat ∷ xs) (seats_set us id v)

seats_at : (views : List View) (id : ℕ) (v : View) → get_elem? views id ≡ some v → seat_at (seats views) id ≡ v.seat
seats_at [] id v e = absurd (some-ne-none v (sym e))
seats_at (u ∷ us) zero v e = ap (λ (x : View). x.seat) (some-injective u v e)
seats_at (u ∷ us) (suc id) v e = seats_at us id v e

seats_more : (views : List View) (v : View) → seats (views ++ v ∷ []) ≡ seats views ++ v.seat ∷ []
seats_more [] v = refl
seats_more (u ∷ us) v = ap (λ xs. u.seat ∷ xs) (seats_more us v)

first_word : (ws : List ℕ) (x : ℕ) → length ws ≡ 2 → (x ≡ slice_index (set ws 0 x) 0) × (slice_index ws 1 ≡ slice_index (set ws 0 x) 1) × (length (set ws 0 x) ≡ 2)
first_word [] x e = absurd (omega arith)
first_word (a ∷ []) x e = absurd (omega arith)
first_word (a ∷ b ∷ ws) x e = (refl, refl, e)

second_word : (ws : List ℕ) (x : ℕ) → length ws ≡ 2 → (slice_index ws 0 ≡ slice_index (set ws 1 x) 0) × (x ≡ slice_index (set ws 1 x) 1) × (length (set ws 1 x) ≡ 2)
second_word [] x e = absurd (omega arith)
second_word (a ∷ []) x e = absurd (omega arith)
second_word (a ∷ b ∷ ws) x e = (refl, refl, e)

same_machine : (n w a b c d : ℕ) (ss ts : List (Option SeatValue)) → a ≡ c → b ≡ d → ss ≡ ts → (let x : Machine = record { n = n; whole = w; next = a; least = b; seats = ss } in let y : Machine = record { n = n; whole = w; next = c; least = d; seats = ts } in x ≡ y)
same_machine n w a b c d ss ts e f g = λ i. record { n = n; whole = w; next = e i; least = f i; seats = g i }

-- every live view knows the size of the board
abbrev Told : ℕ → ℕ → List View → Type 0
Told n w views = (k : ℕ) (v : View) (s : SeatValue) → get_elem? views k ≡ some v → v.seat ≡ Some s → (v.n ≡ n) × (v.whole ≡ w)

told_set : (n w : ℕ) (views : List View) (id : ℕ) (new : View) → Told n w views → (new.n ≡ n) × (new.whole ≡ w) → Told n w (set views id new)
told_set n w views id new told size k v s e live =
    ⊎_elim (λ t. subst (λ (u : View). (u.n ≡ n) × (u.whole ≡ w)) t.1 size) (λ t. told k v s t.1 live) (at_set views id k new v e)

told_gone : (n w : ℕ) (views : List View) (id : ℕ) → Told n w views → Told n w (set views id no_view)
told_gone n w views id told k v s e live =
    ⊎_elim (λ t. absurd (let q : no_view.seat ≡ v.seat = ap (λ (u : View). u.seat) t.1 in cc (q, live))) (λ t. told k v s t.1 live) (at_set views id k no_view v e)

told_more : (n w : ℕ) (views : List View) (new : View) → Told n w views → (new.n ≡ n) × (new.whole ≡ w) → Told n w (views ++ new ∷ [])
told_more n w views new told size k v s e live =
    ⊎_elim (λ t. told k v s t live) (λ t. subst (λ (u : View). (u.n ≡ n) × (u.whole ≡ w)) t size) (at_snoc views new v k e)

-- the seat of a live view
abbrev state_of : Me (Unit {0}) View → SeatValue
state_of me = state_in me.0.seat

pub draw_allowed : (n w slots id : ℕ) (me : Me (Unit {0}) View) → me.0.seat ≡ Some (state_of me) → (state_of me).spent < (state_of me).weight
    → Allows (λ (s : State (Unit {0}) View). IsBoard n w s.words s.views) slots id me 0 (λ k. (k + 1) % 2 ^ 64) (λ found new. (new.1 ≡ me.1) × Tells Draw (found_reply me.0.n found) me.0 new.0)
draw_allowed n w slots id me live spare s board len at fits =
    let m : Machine = machine_of n w s.words s.views in
    let h : SeatValue = state_of me in
    let here : seat_at m.seats id ≡ Some h = seats_at s.views id me.0 at ∙ live in
    let size = board.told id me.0 h at live in
    let new : SeatValue = seat_drawn m h in
    let v : View = with_state me.0 new in
    let bound = next_bound m board.sound in
    let tasks = board.sound.tasks in
    let few = board.sound.few in
    let x : ℕ = (slice_index s.words 0 + 1) % 2 ^ 64 in
    let is : slice_index s.words 0 + 1 ≡ x = sym (mod-eq_of_lt (omega arith)) in
    let words = first_word s.words x board.two in
    let same : after_draw m id h ≡ machine_of n w (set s.words 0 x) (set s.views id v) =
    same_machine n w (slice_index s.words 0 + 1) (slice_index s.words 1) (slice_index (set s.words 0 x) 0) (slice_index (set s.words 0 x) 1) (set m.seats id (Some new)) (seats (set s.views id v)) (is ∙ words.0) words.1 (sym (seats_set s.views id v)) in (
      v,
      keeps,
      tt,
      record { two = words.2; told = told_set n w s.views id v board.told size; sound = subst IsSound same (sound_draw m id h board.sound here spare) },
      (
        refl,
        (
          new,
          refl,
          record {
            found = m;
            left = after_draw m id h;
            number = id;
            tasks = sym size.0;
            weight = sym size.1;
            sound = board.sound;
            kept = sound_draw m id h board.sound here spare;
            here = here;
            transition = (h, here, spare, ap (λ (k : ℕ). found_reply k m.next) size.0, refl);
            there = seat_here m.seats id h (Some new) here;
          },
        ),
      ),
    )

pub note_allowed : (n w slots id t : ℕ) (me : Me (Unit {0}) View) → me.0.seat ≡ Some (state_of me) → IsIn t (state_of me).drawn
    → Allows (λ (s : State (Unit {0}) View). IsBoard n w s.words s.views) slots id me 1 (λ k. min k t) (λ found new. (new.1 ≡ me.1) × Tells (λ k. Note k t) (Least (min found t)) me.0 new.0)
note_allowed n w slots id t me live has s board len at fits =
    let m : Machine = machine_of n w s.words s.views in
    let h : SeatValue = state_of me in
    let here : seat_at m.seats id ≡ Some h = seats_at s.views id me.0 at ∙ live in
    let size = board.told id me.0 h at live in
    let new : SeatValue = seat_noted m h t in
    let v : View = with_state me.0 new in
    let x : ℕ = min (slice_index s.words 1) t in
    let words = second_word s.words x board.two in
    let same : after_note m id h t ≡ machine_of n w (set s.words 1 x) (set s.views id v) =
    same_machine n w (slice_index s.words 0) x (slice_index (set s.words 1 x) 0) (slice_index (set s.words 1 x) 1) (set m.seats id (Some new)) (seats (set s.views id v)) words.0 words.1 (sym (seats_set s.views id v)) in (
      v,
      keeps,
      tt,
      record { two = words.2; told = told_set n w s.views id v board.told size; sound = subst IsSound same (sound_note m id h t board.sound here has) },
      (
        refl,
        (
          new,
          refl,
          record {
            found = m;
            left = after_note m id h t;
            number = id;
            tasks = sym size.0;
            weight = sym size.1;
            sound = board.sound;
            kept = sound_note m id h t board.sound here has;
            here = here;
            transition = (h, here, has, refl, refl);
            there = seat_here m.seats id h (Some new) here;
          },
        ),
      ),
    )

pub look_allowed : (n w slots id : ℕ) (me : Me (Unit {0}) View) → me.0.seat ≡ Some (state_of me)
    → Allows (λ (s : State (Unit {0}) View). IsBoard n w s.words s.views) slots id me 1 (λ k. k) (λ found new. (new.1 ≡ me.1) × Tells Look (Least found) me.0 new.0)
look_allowed n w slots id me live s board len at fits =
    let m : Machine = machine_of n w s.words s.views in
    let h : SeatValue = state_of me in
    let here : seat_at m.seats id ≡ Some h = seats_at s.views id me.0 at ∙ live in
    let size = board.told id me.0 h at live in
    let new : SeatValue = record h { seen = m.least } in
    let v : View = with_state me.0 new in
    let x : ℕ = slice_index s.words 1 in
    let words = second_word s.words x board.two in
    let same : after_look m id h ≡ machine_of n w (set s.words 1 x) (set s.views id v) =
    same_machine n w (slice_index s.words 0) x (slice_index (set s.words 1 x) 0) (slice_index (set s.words 1 x) 1) (set m.seats id (Some new)) (seats (set s.views id v)) words.0 words.1 (sym (seats_set s.views id v)) in (
      v,
      keeps,
      tt,
      record { two = words.2; told = told_set n w s.views id v board.told size; sound = subst IsSound same (sound_look m id h board.sound here) },
      (
        refl,
        (
          new,
          refl,
          record {
            found = m;
            left = after_look m id h;
            number = id;
            tasks = sym size.0;
            weight = sym size.1;
            sound = board.sound;
            kept = sound_look m id h board.sound here;
            here = here;
            transition = (h, here, refl, refl);
            there = seat_here m.seats id h (Some new) here;
          },
        ),
      ),
    )

pub split_allowed : (n w id g : ℕ) (v : View) → v.seat ≡ Some (state_in v.seat) → 1 ≤ g → g < (state_in v.seat).weight - (state_in v.seat).spent
    → Splits (λ (s : State (Unit {0}) View). IsBoard n w s.words s.views) id v (with_state v (seat_left (state_in v.seat) g)) (with_state v (seat_given (state_in v.seat) g))
split_allowed n w id g v live one less s board at =
    let m : Machine = machine_of n w s.words s.views in
    let h : SeatValue = state_in v.seat in
    let here : seat_at m.seats id ≡ Some h = seats_at s.views id v at ∙ live in
    let size = board.told id v h at live in
    let left : View = with_state v (seat_left h g) in
    let right : View = with_state v (seat_given h g) in
    let ss : seats (set s.views id left ++ right ∷ []) ≡ set m.seats id (Some (seat_left h g)) ++ Some (seat_given h g) ∷ [] =
    seats_more (set s.views id left) right ∙ ap (λ xs. xs ++ Some (seat_given h g) ∷ []) (seats_set s.views id left) in
    let same : after_split m id h g ≡ machine_of n w s.words (set s.views id left ++ right ∷ []) =
    same_machine n w m.next m.least m.next m.least (set m.seats id (Some (seat_left h g)) ++ Some (seat_given h g) ∷ []) (seats (set s.views id left ++ right ∷ [])) refl refl (sym ss) in
    record { two = board.two; told = told_more n w (set s.views id left) right (told_set n w s.views id left board.told size) size; sound = subst IsSound same (sound_split m id h g board.sound here one less) }

pub join_allowed : (n w id other : ℕ) (v u : View) → v.seat ≡ Some (state_in v.seat) → u.seat ≡ Some (state_in u.seat)
    → Joins (λ (s : State (Unit {0}) View). IsBoard n w s.words s.views) id v other u (with_state v (seat_joined (state_in v.seat) (state_in u.seat))) no_view
join_allowed n w id other v u live live' s board at ne there =
    let m : Machine = machine_of n w s.words s.views in
    let h : SeatValue = state_in v.seat in
    let o : SeatValue = state_in u.seat in
    let both : View = with_state v (seat_joined h o) in
    let size = board.told id v h at live in
    let here : seat_at m.seats id ≡ Some h = seats_at s.views id v at ∙ live in
    let too : seat_at m.seats other ≡ Some o =
    sym (seat_else m.seats id other (Some (seat_joined h o)) ne) ∙ (ap (λ xs. seat_at xs other) (sym (seats_set s.views id both)) ∙ (seats_at (set s.views id both) other u there ∙ live')) in
    let ss : seats (set (set s.views id both) other no_view) ≡ set (set m.seats id (Some (seat_joined h o))) other None =
    seats_set (set s.views id both) other no_view ∙ ap (λ xs. set xs other None) (seats_set s.views id both) in
    let same : after_join m id h other o ≡ machine_of n w s.words (set (set s.views id both) other no_view) =
    same_machine n w m.next m.least m.next m.least (set (set m.seats id (Some (seat_joined h o))) other None) (seats (set (set s.views id both) other no_view)) refl refl (sym ss) in
    record { two = board.two; told = told_gone n w (set s.views id both) other (told_set n w s.views id both board.told size); sound = subst IsSound same (sound_join m id h other o board.sound here too ne) }

-- What a step's event says of the seat
pub drew : (n w found : ℕ) (h h' : SeatValue) → IsStep n w Draw (found_reply n found) h h'
    → (m : Machine) × (h' ≡ seat_drawn m h) × (found_reply n found ≡ draw_reply m) × ((x : ℕ) → IsIn x h.drawn → x < min m.next m.n)
drew n w found h h' e = go e.transition
  where
    go : IsTransition e.found (Draw e.number) (found_reply n found) e.left → (m : Machine) × (h' ≡ seat_drawn m h) × (found_reply n found ≡ draw_reply m) × ((x : ℕ) → IsIn x h.drawn → x < min m.next m.n)
    go (s, at, spare, is, so) =
        let same : s ≡ h = one_seat (seat_at e.found.seats e.number) h s e.here at in
        let there : seat_at e.left.seats e.number ≡ Some (seat_drawn e.found s) = ap (λ (z : Machine). seat_at z.seats e.number) so ∙ seat_here e.found.seats e.number s (Some (seat_drawn e.found s)) at in
        (e.found, one_seat (seat_at e.left.seats e.number) (seat_drawn e.found s) h' there e.there ∙ ap (seat_drawn e.found) same, is, (λ x has. drawn_below e.found e.number h x e.sound e.here has))

replies : (a b : Bool) (x y : ℕ) → cond a (Task x) Empty ≡ cond b (Task y) Empty → (b ≡ a) × (a ≡ true → y ≡ x)
replies true true x y e = (refl, (λ _. sym (cc e)))
replies true false x y e = absurd (cc e)
replies false true x y e = absurd (cc e)
replies false false x y e = (refl, (λ e. absurd (cc e)))

-- a draw that found a task
pub drew_some : (n w found : ℕ) (h h' : SeatValue) → IsStep n w Draw (found_reply n found) h h' → found < n
    → (h' ≡ record h { drawn = h.drawn ++ found ∷ [] }) × ((x : ℕ) → IsIn x h.drawn → x < found)
drew_some n w found h h' e lt =
    let d = drew n w found h h' e in
    let m : Machine = d.0 in
    let r = replies (nat_lt found n) (nat_lt m.next m.n) found m.next d.2 in
    let yes' : nat_lt found n ≡ true = lt-ltb found n lt in
    let next : m.next ≡ found = r.1 yes' in (
      d.1 ∙ (ap (λ (v : Bool). cond v (record h { drawn = h.drawn ++ m.next ∷ [] }) (record h { spent = h.spent + 1 })) (r.0 ∙ yes') ∙ ap (λ (k : ℕ). record h { drawn = h.drawn ++ k ∷ [] }) next),
      (λ x has. let p = d.3 x has in omega arith),
    )

-- a draw that found none
pub drew_none : (n w found : ℕ) (h h' : SeatValue) → IsStep n w Draw (found_reply n found) h h' → n ≤ found → h' ≡ record h { spent = h.spent + 1 }
drew_none n w found h h' e ge =
    let d = drew n w found h h' e in
    let m : Machine = d.0 in
    let r = replies (nat_lt found n) (nat_lt m.next m.n) found m.next d.2 in
    d.1 ∙ ap (λ (v : Bool). cond v (record h { drawn = h.drawn ++ m.next ∷ [] }) (record h { spent = h.spent + 1 })) (r.0 ∙ le-ltb found n ge)

-- a draw that found a task answers it first
pub first_draw : (n w found : ℕ) (h h' : SeatValue) → IsStep n w Draw (found_reply n found) h h' → found < n → IsFirstDraw n w h h' found
first_draw n w found h h' e lt =
    let is : found_reply n found ≡ Task found = ap (λ (v : Bool). cond v (Task found) Empty) (lt-ltb found n lt) in
    let e' : IsStep n w Draw (Task found) h h' = subst (λ (r : Reply). IsStep n w Draw r h h') is e in
    record { step = e'; undrawn = (draws_once e'.found e'.number found e'.left e'.sound e'.transition).1 }

pub first_draw_moved : (n n' w w' t : ℕ) (h k h' k' : SeatValue) → n ≡ n' → w ≡ w' → h ≡ k → h' ≡ k' → IsFirstDraw n w h h' t → IsFirstDraw n' w' k k' t
first_draw_moved n n' w w' t h k h' k' a b e f draw =
    subst (λ (v : ℕ). IsFirstDraw v w' k k' t) a
    (subst (λ (v : ℕ). IsFirstDraw n v k k' t) b
    (subst (λ (v : SeatValue). IsFirstDraw n w v k' t) e
    (subst (λ (v : SeatValue). IsFirstDraw n w h v t) f draw)))

pub noted : (n w found t : ℕ) (h h' : SeatValue) → IsStep n w (λ k. Note k t) (Least (min found t)) h h'
    → (h' ≡ record h { noted = h.noted ++ t ∷ []; seen = h'.seen }) × (h'.seen ≡ min found t) × (h'.seen ≤ h.seen)
noted n w found t h h' e = go e.transition
  where
    go : IsTransition e.found (Note e.number t) (Least (min found t)) e.left → (h' ≡ record h { noted = h.noted ++ t ∷ []; seen = h'.seen }) × (h'.seen ≡ min found t) × (h'.seen ≤ h.seen)
    go (s, at, has, is, so) =
        let same : s ≡ h = one_seat (seat_at e.found.seats e.number) h s e.here at in
        let there : seat_at e.left.seats e.number ≡ Some (seat_noted e.found s t) = ap (λ (z : Machine). seat_at z.seats e.number) so ∙ seat_here e.found.seats e.number s (Some (seat_noted e.found s t)) at in
        let q : h' ≡ seat_noted e.found h t = one_seat (seat_at e.left.seats e.number) (seat_noted e.found s t) h' there e.there ∙ ap (λ (u : SeatValue). seat_noted e.found u t) same in
        let seen : h'.seen ≡ min e.found.least t = ap (λ (u : SeatValue). u.seen) q in
        let found' : min found t ≡ min e.found.least t = cc is in
        let each = (e.sound.each e.number h e.here).above in
        (q ∙ ap (λ (v : ℕ). record h { noted = h.noted ++ t ∷ []; seen = v }) (sym seen), seen ∙ sym found', omega arith)

pub looked : (n w found : ℕ) (h h' : SeatValue) → IsStep n w Look (Least found) h h'
    → (h' ≡ record h { seen = found }) × ((x : ℕ) → IsIn x h.noted → found ≤ x) × (found ≤ h.seen)
looked n w found h h' e = go e.transition
  where
    go : IsTransition e.found (Look e.number) (Least found) e.left → (h' ≡ record h { seen = found }) × ((x : ℕ) → IsIn x h.noted → found ≤ x) × (found ≤ h.seen)
    go (s, at, is, so) =
        let same : s ≡ h = one_seat (seat_at e.found.seats e.number) h s e.here at in
        let there : seat_at e.left.seats e.number ≡ Some (record s { seen = e.found.least }) = ap (λ (z : Machine). seat_at z.seats e.number) so ∙ seat_here e.found.seats e.number s (Some (record s { seen = e.found.least })) at in
        let q : h' ≡ record h { seen = e.found.least } = one_seat (seat_at e.left.seats e.number) (record s { seen = e.found.least }) h' there e.there ∙ ap (λ (u : SeatValue). record u { seen = e.found.least }) same in
        let found' : found ≡ e.found.least = cc is in
        let each = e.sound.each e.number h e.here in
        (q ∙ ap (λ (v : ℕ). record h { seen = v }) (sym found'), (λ x has. let p = each.below x has in let p' = each.above in omega arith), (let p' = each.above in omega arith))

pub note_moved : (n n' w w' t l l' : ℕ) (h k h' k' : SeatValue) → n ≡ n' → w ≡ w' → l ≡ l' → h ≡ k → h' ≡ k' → IsStep n w (λ i. Note i t) (Least l) h h' → IsStep n' w' (λ i. Note i t) (Least l') k k'
note_moved n n' w w' t l l' h k h' k' a b d e f step =
    subst (λ (v : ℕ). IsStep v w' (λ i. Note i t) (Least l') k k') a
    (subst (λ (v : ℕ). IsStep n v (λ i. Note i t) (Least l') k k') b
    (subst (λ (v : ℕ). IsStep n w (λ i. Note i t) (Least v) k k') d
    (subst (λ (v : SeatValue). IsStep n w (λ i. Note i t) (Least l) v k') e
    (subst (λ (v : SeatValue). IsStep n w (λ i. Note i t) (Least l) h v) f step))))

index_of : (ws : List ℕ) (i x : ℕ) → get_elem? ws i ≡ some x → x ≡ get_or ws i 0
index_of [] i x e = absurd (some-ne-none x (sym e))
index_of (a ∷ ws) zero x e = sym (some-injective a x e)
index_of (a ∷ ws) (suc i) x e = index_of ws i x e

-- the last state that a close tells of
ended : (n w : ℕ) (words : List ℕ) (views : List View) (id : ℕ) (v : View) → IsBoard n w words views → get_elem? views id ≡ some v → v.seat ≡ Some (state_in v.seat) → IsLastState n w (slice_index words 0) (slice_index words 1) (state_in v.seat)
ended n w words views id v board at live = record {
  last = machine_of n w words views;
  number = id;
  tasks = refl;
  weight = refl;
  next_is = refl;
  least_is = refl;
  sound = board.sound;
  here = seats_at views id v at ∙ live;
}

pub ends : (n n' w w' : ℕ) (ws : List ℕ) (id : ℕ) (v : View) (h : SeatValue) (next least : ℕ) → (s : State (Unit {0}) View) → Seen (λ (z : State (Unit {0}) View). IsBoard n w z.words z.views) id v s → s.words ≡ ws → v.seat ≡ Some (state_in v.seat) → state_in v.seat ≡ h → n ≡ n' → w ≡ w'
    → get_elem? ws 0 ≡ some next → get_elem? ws 1 ≡ some least → IsLastState n' w' next least h
ends n n' w w' ws id v h next least s seen words live is size whole first second =
    let a : next ≡ slice_index s.words 0 = index_of ws 0 next first ∙ ap (λ (x : List ℕ). slice_index x 0) (sym words) in
    let b : least ≡ slice_index s.words 1 = index_of ws 1 least second ∙ ap (λ (x : List ℕ). slice_index x 1) (sym words) in
    subst (λ (x : ℕ). IsLastState x w' next least h) size
    (subst (λ (x : ℕ). IsLastState n x next least h) whole
    (subst (λ (x : ℕ). IsLastState n w x least h) (sym a)
    (subst (λ (x : ℕ). IsLastState n w (slice_index s.words 0) x h) (sym b)
    (subst (λ (u : SeatValue). IsLastState n w (slice_index s.words 0) (slice_index s.words 1) u) is (ended n w s.words s.views id v seen.0 seen.1 live)))))

-- what the last state says of a seat that has the whole weight
pub record IsEnd (n next low : ℕ) (h : SeatValue) : Type 0 where
  pub drawn : IsEachBelow (min next n) h.drawn
  pub spent : h.spent ≡ next - min next n
  pub all : 0 < h.spent → IsEachBelow n h.drawn
  pub least : low ≡ least_of h.noted
  pub above : low ≤ h.seen
  pub fits : h.seen ≤ greatest
  pub small : (x : ℕ) → IsIn x h.noted → x < greatest

pub whole_end : (n w next low : ℕ) (h : SeatValue) → IsLastState n w next low h → h.weight ≡ w → IsEnd n next low h
whole_end n w next low h e is =
    let m : Machine = e.last in
    let k = whole_knows m e.number h e.sound e.here (is ∙ sym e.weight) in
    let each = e.sound.each e.number h e.here in
    let small = e.sound.tasks in
    let a = e.next_is in
    let b = e.tasks in
    let both : min m.next m.n ≡ min next n = omega arith in
    let spent : h.spent ≡ next - min next n = (let p = k.spent in omega arith) in
    let drawn : IsEachBelow (min next n) h.drawn = subst (λ (x : ℕ). IsEachBelow x h.drawn) both k.drawn in record {
      drawn = drawn;
      spent = spent;
      all = λ some. subst (λ (x : ℕ). IsEachBelow x h.drawn) (omega arith) drawn;
      least = sym e.least_is ∙ k.least;
      above = (let p = k.seen in let q = e.least_is in omega arith);
      fits = each.fits;
      small = λ x has. let p = drawn_below m e.number h x e.sound e.here (each.noted x has) in omega arith;
    }

empty_of : (xs : List ℕ) → ((x : ℕ) → IsIn x xs → ⊥) → xs ≡ []
empty_of [] none = refl
empty_of (x ∷ xs) none = absurd (none x (in_first x xs))

-- where something was noted
pub end_some : (n next low : ℕ) (h : SeatValue) → IsEnd n next low h → low ≢ greatest → IsLeast h.noted low × (h.noted ≡ [] → ⊥)
end_some n next low h e ne =
    let l = e.least in
    let has : IsIn low h.noted = ⊎_elim (λ g. absurd (ne (l ∙ g))) (λ (has : IsIn (least_of h.noted) h.noted). subst (λ (x : ℕ). IsIn x h.noted) (sym l) has) (least_of_member h.noted) in (
      record { member = has; below = λ x is. let p = least_of_under x h.noted is in omega arith },
      (λ none. let has' : IsIn low [] = subst (λ (xs : List ℕ). IsIn low xs) none has in omega arith),
    )

-- where nothing was noted
pub end_none : (n next low : ℕ) (h : SeatValue) → IsEnd n next low h → low ≡ greatest → (h.noted ≡ []) × (h.seen ≡ greatest)
end_none n next low h e is = (
  empty_of h.noted (λ x has. let p = least_of_under x h.noted has in let q = e.small x has in let l = e.least in omega arith),
  (let a = e.above in let b = e.fits in omega arith),
)

-- a seat that steps has drawn each number below n at most once
pub step_once : (n w : ℕ) (event : ℕ → Event) (reply : Reply) (h h' : SeatValue) → IsStep n w event reply h h' → (x : ℕ) → occurrences x h.drawn ≤ once_below x n
step_once n w event reply h h' e x =
    let p = total_part (λ (u : SeatValue). occurrences x u.drawn) e.found.seats e.number h e.here in
    let d = e.sound.drawn x in
    let q = below_less x (min e.found.next e.found.n) e.found.n (omega arith) in
    subst (λ (k : ℕ). occurrences x h.drawn ≤ once_below x k) e.tasks (omega arith)
