-- From the steps of the code to the events.
use Rattle.std.proofs.Common.{◌≡◌, ℕ, zero, suc, ◌+◌, ◌-◌, ◌^◌, ◌<◌, ◌≤◌, ◌≢◌, List, [], ◌∷◌, ◌++◌, length, get_or, set, take, add-one, min, refl, sym, ap, ◌∙◌, arith, subst, ◌↔◌}
use Rattle.std.specs.Prelude.{Option, Some, None}
use Rattle.qn_board.specs.declared.event.Event.{Event}
use Rattle.qn_board.specs.declared.event.Event.TheVariants.{Draw, Note, Look, Split, Join}
use Rattle.qn_board.specs.declared.event.Reply.{Reply}
use Rattle.qn_board.specs.declared.event.Reply.TheVariants.{Least, Seat, Joined}
use Rattle.qn_board.specs.Lists.{IsIn}
use Rattle.qn_board.specs.Seats.{SeatValue, seat_at}
use Rattle.qn_board.specs.Machine.{Machine, seat_drawn, after_draw, draw_reply, after_note, seat_noted, after_look, seat_left, seat_given, after_split, seat_joined, after_join, IsTransition, IsMet, Runs}
use lib.ListN.{length-set}
use Rattle.qn_board.specs.Sound.{IsSound}
use Rattle.qn_board.proofs.Seating.{seat_else, one_seat, total_gone, total_part}
use Rattle.qn_board.proofs.Keeps.{sound_acts}
use Rattle.qn_board.proofs.Settles.{next_bound}

pub seat_in : (ss : List (Option SeatValue)) (k : ℕ) (v d : Option SeatValue) → k < length ss → v ≡ get_or ss k d → seat_at ss k ≡ v
seat_in [] k v d h e = absurd (omega arith)
seat_in (t ∷ ss) zero v d h e = sym e
seat_in (t ∷ ss) (suc k) v d h e = seat_in ss k v d (omega arith) e

pub seat_lt : (ss : List (Option SeatValue)) (k : ℕ) (s : SeatValue) → seat_at ss k ≡ Some s → k < length ss
seat_lt [] k s e = absurd (cc e)
seat_lt (t ∷ ss) zero s e = omega arith
seat_lt (t ∷ ss) (suc k) s e = omega (arith, seat_lt ss k s e)

-- what an event needs, for the seat that is there
pub can_draw : (m : Machine) (k : ℕ) (s : SeatValue) → seat_at m.seats k ≡ Some s → (s.spent < s.weight) ↔ IsMet m (Draw k)
can_draw m k s e = ((λ h. (draw_reply m, after_draw m k s, (s, e, h, refl, refl))), (λ (r, m', (u, at, h, a, b)). subst (λ (v : SeatValue). v.spent < v.weight) (one_seat (seat_at m.seats k) s u e at) h))

pub can_look : (m : Machine) (k : ℕ) (s : SeatValue) → seat_at m.seats k ≡ Some s → IsMet m (Look k)
can_look m k s e = (Least m.least, after_look m k s, (s, e, refl, refl))

pub can_note : (m : Machine) (k : ℕ) (s : SeatValue) (t : ℕ) → seat_at m.seats k ≡ Some s → IsIn t s.drawn ↔ IsMet m (Note k t)
can_note m k s t e = ((λ h. (Least (min m.least t), after_note m k s t, (s, e, h, refl, refl))), (λ (r, m', (u, at, h, a, b)). subst (λ (v : SeatValue). IsIn t v.drawn) (one_seat (seat_at m.seats k) s u e at) h))

pub can_split : (m : Machine) (k : ℕ) (s : SeatValue) (g : ℕ) → seat_at m.seats k ≡ Some s → ((1 ≤ g) × (g < s.weight - s.spent)) ↔ IsMet m (Split k g)
can_split m k s g e = ((λ h. (Seat (length m.seats), after_split m k s g, (s, e, h.0, h.1, refl, refl))), (λ (r, m', (u, at, h, i, a, b)). (h, subst (λ (v : SeatValue). g < v.weight - v.spent) (one_seat (seat_at m.seats k) s u e at) i)))

pub can_join : (m : Machine) (k l : ℕ) (s o : SeatValue) → seat_at m.seats k ≡ Some s → seat_at m.seats l ≡ Some o → l ≢ k → IsMet m (Join k l)
can_join m k l s o e f ne = (Joined, after_join m k s l o, (s, o, e, f, ne, refl, refl))

pub set_twice : {A : Type 0} (ss : List A) (k : ℕ) (a b : A) → set (set ss k a) k b ≡ set ss k b
set_twice [] k a b = refl
set_twice (t ∷ ss) zero a b = refl
set_twice (t ∷ ss) (suc k) a b = ap (λ xs. t ∷ xs) (set_twice ss k a b)

pub set_same : (ss : List (Option SeatValue)) (k : ℕ) (s : SeatValue) → seat_at ss k ≡ Some s → set ss k (Some s) ≡ ss
set_same [] k s e = refl
set_same (t ∷ ss) zero s e = ap (λ v. v ∷ ss) (sym e)
set_same (t ∷ ss) (suc k) s e = ap (λ xs. t ∷ xs) (set_same ss k s e)

pub set_apart : {A : Type 0} (ss : List A) (k l : ℕ) (a b : A) → l ≢ k → set (set ss k a) l b ≡ set (set ss l b) k a
set_apart [] k l a b ne = refl
set_apart (t ∷ ss) zero zero a b ne = absurd (ne refl)
set_apart (t ∷ ss) zero (suc l) a b ne = refl
set_apart (t ∷ ss) (suc k) zero a b ne = refl
set_apart (t ∷ ss) (suc k) (suc l) a b ne = ap (λ xs. t ∷ xs) (set_apart ss k l a b (λ e. ne (ap suc e)))

pub set_front : {A : Type 0} (ss ts : List A) (k : ℕ) (a : A) → k < length ss → set (ss ++ ts) k a ≡ set ss k a ++ ts
set_front [] ts k a h = absurd (omega arith)
set_front (t ∷ ss) ts zero a h = refl
set_front (t ∷ ss) ts (suc k) a h = ap (λ xs. t ∷ xs) (set_front ss ts k a (omega arith))

-- a seat that was taken out, and put back as it was, or changed
pub put_back : (ss xs ys : List (Option SeatValue)) (k : ℕ) (s s' : SeatValue) → seat_at ss k ≡ Some s → xs ≡ set ss k None → ys ≡ set xs k (Some s') → s' ≡ s → ys ≡ ss
put_back ss xs ys k s s' at gone back same =
    back ∙ (ap (λ (zs : List (Option SeatValue)). set zs k (Some s')) gone ∙ (set_twice ss k None (Some s') ∙ (ap (λ (u : SeatValue). set ss k (Some u)) same ∙ set_same ss k s at)))

pub put_new : (ss xs ys : List (Option SeatValue)) (k : ℕ) (s' : SeatValue) → xs ≡ set ss k None → ys ≡ set xs k (Some s') → ys ≡ set ss k (Some s')
put_new ss xs ys k s' gone back = back ∙ (ap (λ (zs : List (Option SeatValue)). set zs k (Some s')) gone ∙ set_twice ss k None (Some s'))

pub put_lt : (ss xs : List (Option SeatValue)) (k : ℕ) (s : SeatValue) → seat_at ss k ≡ Some s → xs ≡ set ss k None → k < length xs
put_lt ss xs k s at gone = let p = seat_lt ss k s at in let q : length xs ≡ length ss = ap length gone ∙ length-set ss k None in omega arith

-- An event at the seat that was found: the state after it, which is sound
pub ends_draw : (m : Machine) (k : ℕ) (s s' : SeatValue) (xs ys : List (Option SeatValue)) (r : Reply) → IsSound m → IsMet m (Draw k) → seat_at m.seats k ≡ Some s → xs ≡ set m.seats k None → s' ≡ seat_drawn m s → ys ≡ set xs k (Some s') → r ≡ draw_reply m
    → IsTransition m (Draw k) r (record m { next = m.next + 1; seats = ys }) × IsSound (record m { next = m.next + 1; seats = ys })
ends_draw m k s s' xs ys r h met at gone new back is =
    let a : IsTransition m (Draw k) r (record m { next = m.next + 1; seats = ys }) = (s, at, (can_draw m k s at).1 met, is, ap (λ (zs : List (Option SeatValue)). record m { next = m.next + 1; seats = zs }) (put_new m.seats xs ys k s' gone back ∙ ap (λ (u : SeatValue). set m.seats k (Some u)) new)) in
    (a, sound_acts m (Draw k) r (record m { next = m.next + 1; seats = ys }) h a)

pub ends_note : (m : Machine) (k t : ℕ) (s s' : SeatValue) (xs ys : List (Option SeatValue)) (l : ℕ) → IsSound m → IsMet m (Note k t) → seat_at m.seats k ≡ Some s → xs ≡ set m.seats k None → l ≡ min m.least t → s' ≡ record s { noted = s.noted ++ t ∷ []; seen = l } → ys ≡ set xs k (Some s')
    → IsTransition m (Note k t) (Least l) (record m { least = l; seats = ys }) × IsSound (record m { least = l; seats = ys })
ends_note m k t s s' xs ys l h met at gone is new back =
    let new' : s' ≡ seat_noted m s t = new ∙ ap (λ (v : ℕ). record s { noted = s.noted ++ t ∷ []; seen = v }) is in
    let ys' : ys ≡ set m.seats k (Some (seat_noted m s t)) = put_new m.seats xs ys k s' gone back ∙ ap (λ (u : SeatValue). set m.seats k (Some u)) new' in
    let a : IsTransition m (Note k t) (Least l) (record m { least = l; seats = ys }) = (s, at, (can_note m k s t at).1 met, ap Least is, ap (λ (v : ℕ). record m { least = v; seats = ys }) is ∙ ap (λ (zs : List (Option SeatValue)). record m { least = min m.least t; seats = zs }) ys') in
    (a, sound_acts m (Note k t) (Least l) (record m { least = l; seats = ys }) h a)

pub ends_look : (m : Machine) (k : ℕ) (s s' : SeatValue) (xs ys : List (Option SeatValue)) → IsSound m → seat_at m.seats k ≡ Some s → xs ≡ set m.seats k None → s' ≡ record s { seen = m.least } → ys ≡ set xs k (Some s')
    → IsTransition m (Look k) (Least m.least) (record m { seats = ys }) × IsSound (record m { seats = ys })
ends_look m k s s' xs ys h at gone new back =
    let ys' : ys ≡ set m.seats k (Some (record s { seen = m.least })) = put_new m.seats xs ys k s' gone back ∙ ap (λ (u : SeatValue). set m.seats k (Some u)) new in
    let a : IsTransition m (Look k) (Least m.least) (record m { seats = ys }) = (s, at, refl, ap (λ (zs : List (Option SeatValue)). record m { seats = zs }) ys') in
    (a, sound_acts m (Look k) (Least m.least) (record m { seats = ys }) h a)

pub ends_split : (m : Machine) (k g : ℕ) (s s' o : SeatValue) (xs ys zs : List (Option SeatValue)) (n : ℕ) → IsSound m → IsMet m (Split k g) → seat_at m.seats k ≡ Some s → xs ≡ set m.seats k None → o ≡ seat_given s g → ys ≡ xs ++ Some o ∷ [] → s' ≡ seat_left s g → zs ≡ set ys k (Some s') → n ≡ length m.seats
    → IsTransition m (Split k g) (Seat n) (record m { seats = zs }) × IsSound (record m { seats = zs })
ends_split m k g s s' o xs ys zs n h met at gone other more new back count =
    let lt = put_lt m.seats xs k s at gone in
    let zs' : zs ≡ set m.seats k (Some (seat_left s g)) ++ Some (seat_given s g) ∷ [] =
    back ∙ (ap (λ (ws : List (Option SeatValue)). set ws k (Some s')) more ∙ (set_front xs (Some o ∷ []) k (Some s') lt
    ∙ (ap (λ (ws : List (Option SeatValue)). ws ++ Some o ∷ []) (put_new m.seats xs (set xs k (Some s')) k s' gone refl)
    ∙ (ap (λ (u : SeatValue). set m.seats k (Some u) ++ Some o ∷ []) new ∙ ap (λ (u : SeatValue). set m.seats k (Some (seat_left s g)) ++ Some u ∷ []) other)))) in
    let can = (can_split m k s g at).1 met in
    let a : IsTransition m (Split k g) (Seat n) (record m { seats = zs }) = (s, at, can.0, can.1, ap Seat count, ap (λ (ws : List (Option SeatValue)). record m { seats = ws }) zs') in
    (a, sound_acts m (Split k g) (Seat n) (record m { seats = zs }) h a)

-- the second seat of a join is still there when the first has been taken out
pub join_needs : (m : Machine) (k l : ℕ) → IsMet m (Join k l) → (s : SeatValue) × (o : SeatValue) × (seat_at m.seats k ≡ Some s) × (seat_at m.seats l ≡ Some o) × (l ≢ k)
join_needs m k l (r, m', (s, o, at, to, ne, a, b)) = (s, o, at, to, ne)

pub join_other : (m : Machine) (k l : ℕ) (xs : List (Option SeatValue)) → IsMet m (Join k l) → xs ≡ set m.seats k None → (o : SeatValue) × (seat_at xs l ≡ Some o)
join_other m k l xs met gone = let n = join_needs m k l met in (n.1, ap (λ (ws : List (Option SeatValue)). seat_at ws l) gone ∙ (seat_else m.seats k l None n.4 ∙ n.3))

pub ends_join : (m : Machine) (k l : ℕ) (s s' o : SeatValue) (xs ys zs : List (Option SeatValue)) → IsSound m → IsMet m (Join k l) → seat_at m.seats k ≡ Some s → xs ≡ set m.seats k None → seat_at xs l ≡ Some o → ys ≡ set xs l None → s' ≡ seat_joined s o → zs ≡ set ys k (Some s')
    → IsTransition m (Join k l) Joined (record m { seats = zs }) × IsSound (record m { seats = zs })
ends_join m k l s s' o xs ys zs h met at gone there gone' new back =
    let n = join_needs m k l met in
    let to : seat_at m.seats l ≡ Some o = sym (seat_else m.seats k l None n.4) ∙ (ap (λ (ws : List (Option SeatValue)). seat_at ws l) (sym gone) ∙ there) in
    let zs' : zs ≡ set (set m.seats k (Some (seat_joined s o))) l None =
    back ∙ (ap (λ (ws : List (Option SeatValue)). set ws k (Some s')) gone' ∙ (ap (λ (ws : List (Option SeatValue)). set (set ws l None) k (Some s')) gone
    ∙ (sym (set_apart (set m.seats k None) k l (Some s') None n.4) ∙ (ap (λ (ws : List (Option SeatValue)). set ws l None) (set_twice m.seats k None (Some s')) ∙ ap (λ (u : SeatValue). set (set m.seats k (Some u)) l None) new)))) in
    let a : IsTransition m (Join k l) Joined (record m { seats = zs }) = (s, o, at, to, n.4, refl, ap (λ (ws : List (Option SeatValue)). record m { seats = ws }) zs') in
    (a, sound_acts m (Join k l) Joined (record m { seats = zs }) h a)

-- a join that could not be done puts both seats back
pub unjoined : (m : Machine) (k l : ℕ) (s s' o : SeatValue) (xs ys zs ws : List (Option SeatValue)) → IsMet m (Join k l) → seat_at m.seats k ≡ Some s → xs ≡ set m.seats k None → seat_at xs l ≡ Some o → ys ≡ set xs l None → s' ≡ s → zs ≡ set ys k (Some s') → ws ≡ set zs l (Some o)
    → ws ≡ m.seats
unjoined m k l s s' o xs ys zs ws met at gone there gone' same back back' =
    let n = join_needs m k l met in
    let to : seat_at m.seats l ≡ Some o = sym (seat_else m.seats k l None n.4) ∙ (ap (λ (vs : List (Option SeatValue)). seat_at vs l) (sym gone) ∙ there) in
    let zs' : zs ≡ set m.seats l None =
    back ∙ (ap (λ (vs : List (Option SeatValue)). set vs k (Some s')) gone' ∙ (ap (λ (vs : List (Option SeatValue)). set (set vs l None) k (Some s')) gone
    ∙ (sym (set_apart (set m.seats k None) k l (Some s') None n.4) ∙ (ap (λ (vs : List (Option SeatValue)). set vs l None) (set_twice m.seats k None (Some s') ∙ (ap (λ (u : SeatValue). set m.seats k (Some u)) same ∙ set_same m.seats k s at)))))) in
    put_back m.seats zs ws l o o to zs' back' refl

-- the sums of two live seats stay small
pub join_small : (m : Machine) (k l : ℕ) (s o : SeatValue) (xs : List (Option SeatValue)) → IsSound m → seat_at m.seats k ≡ Some s → xs ≡ set m.seats k None → seat_at xs l ≡ Some o → (s.weight + o.weight < 2 ^ 64) × (s.spent + o.spent < 2 ^ 64)
join_small m k l s o xs h at gone there =
    let p = total_gone (λ (u : SeatValue). u.weight) m.seats k s at in
    let q = total_part (λ (u : SeatValue). u.weight) (set m.seats k None) l o (ap (λ (vs : List (Option SeatValue)). seat_at vs l) (sym gone) ∙ there) in
    let p' = total_gone (λ (u : SeatValue). u.spent) m.seats k s at in
    let q' = total_part (λ (u : SeatValue). u.spent) (set m.seats k None) l o (ap (λ (vs : List (Option SeatValue)). seat_at vs l) (sym gone) ∙ there) in
    let r = h.weights in let r' = h.spent in let t = h.few in let b = next_bound m h in let t' = h.tasks in
    (omega arith, omega arith)

-- one event more
pub runs_more : (m : Machine) (es : List Event) (e : Event) (r : Reply) (m1 m2 : Machine) → Runs m es m1 → IsTransition m1 e r m2 → Runs m (es ++ e ∷ []) m2
runs_more m [] e r m1 m2 run act = (r, m2, subst (λ (v : Machine). IsTransition v e r m2) run act, refl)
runs_more m (x ∷ es) e r m1 m2 (q, between, a, rest) act = (q, between, a, runs_more between es e r m1 m2 rest act)

take_suc : {A : Type 0} (xs : List A) (i : ℕ) (d : A) → i < length xs → take (suc i) xs ≡ take i xs ++ get_or xs i d ∷ []
take_suc [] i d h = absurd (omega arith)
take_suc (x ∷ xs) zero d h = refl
take_suc (x ∷ xs) (suc i) d h = ap (λ ys. x ∷ ys) (take_suc xs i d (omega arith))

pub take_next : {A : Type 0} (xs : List A) (i : ℕ) (d : A) → i < length xs → take (i + 1) xs ≡ take i xs ++ get_or xs i d ∷ []
take_next xs i d h = subst (λ (n : ℕ). take n xs ≡ take i xs ++ get_or xs i d ∷ []) (sym (add-one i)) (take_suc xs i d h)
