-- Each event keeps a sound state sound.
use Rattle.std.proofs.Common.{◌≡◌, ℕ, zero, suc, ◌+◌, ◌-◌, ◌^◌, ◌<◌, ◌≤◌, ◌≢◌, List, [], ◌∷◌, ◌++◌, set, min, cond, nat_lt, true, false, Bool, refl, sym, ap, ◌∙◌, ⊎_elim, arith, subst}
use Rattle.std.specs.Prelude.{Option, Some, None}
use Rattle.std.proofs.lemmas.Bool.{ltb-true, ltb-false}
use Rattle.qn_board.specs.Lists.{occurrences, IsIn, once_below, greatest, least_of}
use Rattle.qn_board.specs.Seats.{SeatValue, seat_at}
use Rattle.qn_board.specs.Machine.{Machine, first, first_seat, after_draw, seat_noted, after_note, after_look, seat_left, seat_given, after_split, seat_joined, after_join, IsTransition, Runs}
use Rattle.qn_board.specs.declared.event.Event.{Event}
use Rattle.qn_board.specs.declared.event.Event.TheVariants.{Draw, Note, Look, Split, Join}
use Rattle.qn_board.specs.declared.event.Reply.{Reply}
use Rattle.qn_board.specs.Sound.{IsSoundSeat, IsSound}
use Rattle.qn_board.proofs.Counting.{occurrences-append, once_below_next, below_none, in_one, below_of, least_of_le, least_of-append, in_either, in_left, in_right}
use Rattle.qn_board.proofs.Seating.{seat_here, seat_else, seat_more, total_set, total_gone, total_new, total_part, least_set, least_under, least_gone, least_new, least_le}

-- what holds of each live seat and of the new value of one
each_set : (P : SeatValue → Type 0) (ss : List (Option SeatValue)) (k : ℕ) (s' : SeatValue) → ((j : ℕ) (u : SeatValue) → seat_at ss j ≡ Some u → P u) → P s'
    → (j : ℕ) (u : SeatValue) → seat_at (set ss k (Some s')) j ≡ Some u → P u
each_set P [] k s' all new j u e = absurd (cc e)
each_set P (t ∷ ss) zero s' all new zero u e = let q : s' ≡ u = cc e in subst P q new
each_set P (t ∷ ss) zero s' all new (suc j) u e = all (suc j) u e
each_set P (t ∷ ss) (suc k) s' all new zero u e = all zero u e
each_set P (t ∷ ss) (suc k) s' all new (suc j) u e = each_set P ss k s' (λ i v h. all (suc i) v h) new j u e

each_gone : (P : SeatValue → Type 0) (ss : List (Option SeatValue)) (k : ℕ) → ((j : ℕ) (u : SeatValue) → seat_at ss j ≡ Some u → P u)
    → (j : ℕ) (u : SeatValue) → seat_at (set ss k None) j ≡ Some u → P u
each_gone P [] k all j u e = absurd (cc e)
each_gone P (t ∷ ss) zero all zero u e = absurd (cc e)
each_gone P (t ∷ ss) zero all (suc j) u e = all (suc j) u e
each_gone P (t ∷ ss) (suc k) all zero u e = all zero u e
each_gone P (t ∷ ss) (suc k) all (suc j) u e = each_gone P ss k (λ i v h. all (suc i) v h) j u e

fair_lower : (l l' : ℕ) (s : SeatValue) → l' ≤ l → IsSoundSeat l s → IsSoundSeat l' s
fair_lower l l' s h f = record { positive = f.positive; spent = f.spent; noted = f.noted; above = (let a = f.above in omega arith); below = f.below; fits = f.fits }

-- a number that a live seat drew is below next and below n
pub drawn_below : (m : Machine) (k : ℕ) (s : SeatValue) (x : ℕ) → IsSound m → seat_at m.seats k ≡ Some s → IsIn x s.drawn → x < min m.next m.n
drawn_below m k s x h e has =
    let p = total_part (λ (u : SeatValue). occurrences x u.drawn) m.seats k s e in
    let d = h.drawn x in
    below_of x (min m.next m.n) (omega arith)

pub sound_first : (n w : ℕ) → n ≤ 2 ^ 32 → 1 ≤ w → w ≤ 2 ^ 32 → IsSound (first n w)
sound_first n w a b c = record {
  drawn = λ x. let q : min 0 n ≡ 0 = omega arith in let p : once_below x (min 0 n) ≡ once_below x 0 = ap (once_below x) q in sym (p ∙ below_none x);
  spent = omega arith;
  tasks = a;
  few = c;
  weights = omega arith;
  least = refl;
  each = each_one w b;
}
  where
    start : (w : ℕ) → 1 ≤ w → IsSoundSeat greatest (first_seat w)
    start w b = record { positive = b; spent = omega arith; noted = λ x h. h; above = omega arith; below = λ x h. absurd (omega arith); fits = omega arith }

    each_one : (w : ℕ) → 1 ≤ w → (k : ℕ) (s : SeatValue) → seat_at (Some (first_seat w) ∷ []) k ≡ Some s → IsSoundSeat greatest s
    each_one w b zero s e = let q : first_seat w ≡ s = cc e in subst (IsSoundSeat greatest) q (start w b)
    each_one w b (suc k) s e = absurd (cc e)

drawn_task : (m : Machine) (k : ℕ) (s : SeatValue) → IsSound m → seat_at m.seats k ≡ Some s → s.spent < s.weight → m.next < m.n
    → IsSound (record m { next = m.next + 1; seats = set m.seats k (Some (record s { drawn = s.drawn ++ m.next ∷ [] })) })
drawn_task m k s h e spare lt =
    let s' : SeatValue = record s { drawn = s.drawn ++ m.next ∷ [] } in
    let f = h.each k s e in record {
      drawn = λ x.
          let a = total_set (λ (u : SeatValue). occurrences x u.drawn) m.seats k s s' e in
          let b = occurrences-append x s.drawn (m.next ∷ []) in
          let d = h.drawn x in
          let p : once_below x (min m.next m.n) ≡ once_below x m.next = ap (once_below x) (omega arith) in
          let q : once_below x (min (m.next + 1) m.n) ≡ once_below x (m.next + 1) = ap (once_below x) (omega arith) in
          let r = once_below_next x m.next in
          omega arith;
      spent = (let a = total_set (λ (u : SeatValue). u.spent) m.seats k s s' e in let p = h.spent in omega arith);
      tasks = h.tasks;
      few = h.few;
      weights = (let a = total_set (λ (u : SeatValue). u.weight) m.seats k s s' e in let p = h.weights in omega arith);
      least = h.least ∙ sym (let a = least_set m.seats k s s' greatest e (omega (arith, least_of_le s.noted)) in omega (arith, least_le m.seats));
      each = each_set (IsSoundSeat m.least) m.seats k s' h.each (record { positive = f.positive; spent = f.spent; noted = (λ x n. in_left x s.drawn (m.next ∷ []) (f.noted x n)); above = f.above; below = f.below; fits = f.fits });
    }

drawn_none : (m : Machine) (k : ℕ) (s : SeatValue) → IsSound m → seat_at m.seats k ≡ Some s → s.spent < s.weight → m.n ≤ m.next
    → IsSound (record m { next = m.next + 1; seats = set m.seats k (Some (record s { spent = s.spent + 1 })) })
drawn_none m k s h e spare ge =
    let s' : SeatValue = record s { spent = s.spent + 1 } in
    let f = h.each k s e in record {
      drawn = λ x.
          let a = total_set (λ (u : SeatValue). occurrences x u.drawn) m.seats k s s' e in
          let d = h.drawn x in
          let p : once_below x (min m.next m.n) ≡ once_below x (min (m.next + 1) m.n) = ap (once_below x) (omega arith) in
          omega arith;
      spent = (let a = total_set (λ (u : SeatValue). u.spent) m.seats k s s' e in let p = h.spent in omega arith);
      tasks = h.tasks;
      few = h.few;
      weights = (let a = total_set (λ (u : SeatValue). u.weight) m.seats k s s' e in let p = h.weights in omega arith);
      least = h.least ∙ sym (let a = least_set m.seats k s s' greatest e (omega (arith, least_of_le s.noted)) in omega (arith, least_le m.seats));
      each = each_set (IsSoundSeat m.least) m.seats k s' h.each (record { positive = f.positive; spent = omega arith; noted = f.noted; above = f.above; below = f.below; fits = f.fits });
    }

pub sound_draw : (m : Machine) (k : ℕ) (s : SeatValue) → IsSound m → seat_at m.seats k ≡ Some s → s.spent < s.weight → IsSound (after_draw m k s)
sound_draw m k s h e spare = go (nat_lt m.next m.n) refl
  where
    go : (b : Bool) → nat_lt m.next m.n ≡ b → IsSound (after_draw m k s)
    go true c = subst (λ (v : Bool). IsSound (record m { next = m.next + 1; seats = set m.seats k (Some (cond v (record s { drawn = s.drawn ++ m.next ∷ [] }) (record s { spent = s.spent + 1 }))) })) (sym c) (drawn_task m k s h e spare (ltb-true m.next m.n c))
    go false c = subst (λ (v : Bool). IsSound (record m { next = m.next + 1; seats = set m.seats k (Some (cond v (record s { drawn = s.drawn ++ m.next ∷ [] }) (record s { spent = s.spent + 1 }))) })) (sym c) (drawn_none m k s h e spare (ltb-false m.next m.n c))

pub sound_note : (m : Machine) (k : ℕ) (s : SeatValue) (t : ℕ) → IsSound m → seat_at m.seats k ≡ Some s → IsIn t s.drawn → IsSound (after_note m k s t)
sound_note m k s t h e has =
    let s' : SeatValue = seat_noted m s t in
    let f = h.each k s e in
    let under = drawn_below m k s t h e has in
    let tasks = h.tasks in record {
      drawn = λ x. (let a = total_set (λ (u : SeatValue). occurrences x u.drawn) m.seats k s s' e in let d = h.drawn x in omega arith);
      spent = (let a = total_set (λ (u : SeatValue). u.spent) m.seats k s s' e in let p = h.spent in omega arith);
      tasks = h.tasks;
      few = h.few;
      weights = (let a = total_set (λ (u : SeatValue). u.weight) m.seats k s s' e in let p = h.weights in omega arith);
      least =
          (let b = least_of-append s.noted (t ∷ []) in
          let a = least_set m.seats k s s' t e (omega arith) in
          let l = h.least in omega arith);
      each = each_set (IsSoundSeat (min m.least t)) m.seats k s' (λ j u g. fair_lower m.least (min m.least t) u (omega arith) (h.each j u g))
          (record {
            positive = f.positive;
            spent = f.spent;
            noted = λ x n. ⊎_elim (λ a. f.noted x a) (λ a. subst (λ v. IsIn v s.drawn) (in_one x t a) has) (in_either x s.noted (t ∷ []) n);
            above = omega arith;
            below = λ x n. ⊎_elim (λ a. let p = f.below x a in let q = f.above in omega arith) (λ a. let p = in_one x t a in omega arith) (in_either x s.noted (t ∷ []) n);
            fits = (let p = f.above in let q = f.fits in omega arith);
          });
    }

pub sound_look : (m : Machine) (k : ℕ) (s : SeatValue) → IsSound m → seat_at m.seats k ≡ Some s → IsSound (after_look m k s)
sound_look m k s h e =
    let s' : SeatValue = record s { seen = m.least } in
    let f = h.each k s e in record {
      drawn = λ x. (let a = total_set (λ (u : SeatValue). occurrences x u.drawn) m.seats k s s' e in let d = h.drawn x in omega arith);
      spent = (let a = total_set (λ (u : SeatValue). u.spent) m.seats k s s' e in let p = h.spent in omega arith);
      tasks = h.tasks;
      few = h.few;
      weights = (let a = total_set (λ (u : SeatValue). u.weight) m.seats k s s' e in let p = h.weights in omega arith);
      least = h.least ∙ sym (let a = least_set m.seats k s s' greatest e (omega (arith, least_of_le s.noted)) in omega (arith, least_le m.seats));
      each = each_set (IsSoundSeat m.least) m.seats k s' h.each (record { positive = f.positive; spent = f.spent; noted = f.noted; above = omega arith; below = (λ x n. let p = f.below x n in let q = f.above in omega arith); fits = (let p = f.above in let q = f.fits in omega arith) });
    }

pub sound_split : (m : Machine) (k : ℕ) (s : SeatValue) (g : ℕ) → IsSound m → seat_at m.seats k ≡ Some s → 1 ≤ g → g < s.weight - s.spent → IsSound (after_split m k s g)
sound_split m k s g h e one less =
    let l : SeatValue = seat_left s g in
    let n : SeatValue = seat_given s g in
    let ss : List (Option SeatValue) = set m.seats k (Some l) in
    let f = h.each k s e in record {
      drawn = λ x. (let a = total_set (λ (u : SeatValue). occurrences x u.drawn) m.seats k s l e in let b = total_new (λ (u : SeatValue). occurrences x u.drawn) ss n in let d = h.drawn x in omega arith);
      spent = (let a = total_set (λ (u : SeatValue). u.spent) m.seats k s l e in let b = total_new (λ (u : SeatValue). u.spent) ss n in let p = h.spent in omega arith);
      tasks = h.tasks;
      few = h.few;
      weights = (let a = total_set (λ (u : SeatValue). u.weight) m.seats k s l e in let b = total_new (λ (u : SeatValue). u.weight) ss n in let p = h.weights in omega arith);
      least = h.least ∙ sym (let a = least_set m.seats k s l greatest e (omega (arith, least_of_le s.noted)) in let b = least_new ss n refl in omega (arith, least_le m.seats));
      each = λ j u q. ⊎_elim
          (each_set (IsSoundSeat m.least) m.seats k l h.each (record { positive = omega arith; spent = omega arith; noted = f.noted; above = f.above; below = f.below; fits = f.fits }) j u)
          (λ (is : Some n ≡ Some u). let same : n ≡ u = cc is in subst (IsSoundSeat m.least) same (record { positive = one; spent = omega arith; noted = (λ x n. n); above = f.above; below = (λ x n. absurd (omega arith)); fits = f.fits }))
          (seat_more ss j u (Some n) q);
    }

pub sound_join : (m : Machine) (k : ℕ) (s : SeatValue) (l : ℕ) (o : SeatValue) → IsSound m → seat_at m.seats k ≡ Some s → seat_at m.seats l ≡ Some o → l ≢ k → IsSound (after_join m k s l o)
sound_join m k s l o h e e' ne =
    let b : SeatValue = seat_joined s o in
    let ss : List (Option SeatValue) = set m.seats k (Some b) in
    let there : seat_at ss l ≡ Some o = seat_else m.seats k l (Some b) ne ∙ e' in
    let here : seat_at (set ss l None) k ≡ Some b = seat_else ss l k None (λ q. ne (sym q)) ∙ seat_here m.seats k s (Some b) e in
    let f = h.each k s e in
    let g = h.each l o e' in record {
      drawn = λ x. (let p = total_set (λ (u : SeatValue). occurrences x u.drawn) m.seats k s b e in let q = total_gone (λ (u : SeatValue). occurrences x u.drawn) ss l o there in let r = occurrences-append x s.drawn o.drawn in let d = h.drawn x in omega arith);
      spent = (let p = total_set (λ (u : SeatValue). u.spent) m.seats k s b e in let q = total_gone (λ (u : SeatValue). u.spent) ss l o there in let d = h.spent in omega arith);
      tasks = h.tasks;
      few = h.few;
      weights = (let p = total_set (λ (u : SeatValue). u.weight) m.seats k s b e in let q = total_gone (λ (u : SeatValue). u.weight) ss l o there in let d = h.weights in omega arith);
      least =
          (let a = least_of-append s.noted o.noted in
          let p = least_set m.seats k s b (least_of o.noted) e a in
          let q = least_under m.seats l o e' in
          let r = least_gone ss l o there in
          let t = least_under (set ss l None) k b here in
          let d = h.least in omega arith);
      each = each_gone (IsSoundSeat m.least) ss l (each_set (IsSoundSeat m.least) m.seats k b h.each (record {
        positive = (let p = f.positive in omega arith);
        spent = (let p = f.spent in let q = g.spent in omega arith);
        noted = λ x n. ⊎_elim (λ a. in_left x s.drawn o.drawn (f.noted x a)) (λ a. in_right x s.drawn o.drawn (g.noted x a)) (in_either x s.noted o.noted n);
        above = (let p = f.above in let q = g.above in omega arith);
        below = λ x n. ⊎_elim (λ a. let p = f.below x a in omega arith) (λ a. let p = g.below x a in omega arith) (in_either x s.noted o.noted n);
        fits = (let p = f.fits in omega arith);
      }));
    }

pub sound_acts : (m : Machine) (e : Event) (r : Reply) (m' : Machine) → IsSound m → IsTransition m e r m' → IsSound m'
sound_acts m (Draw k) r m' h (s, at, spare, is, so) = subst IsSound (sym so) (sound_draw m k s h at spare)
sound_acts m (Note k t) r m' h (s, at, has, is, so) = subst IsSound (sym so) (sound_note m k s t h at has)
sound_acts m (Look k) r m' h (s, at, is, so) = subst IsSound (sym so) (sound_look m k s h at)
sound_acts m (Split k g) r m' h (s, at, one, less, is, so) = subst IsSound (sym so) (sound_split m k s g h at one less)
sound_acts m (Join k l) r m' h (s, o, at, to, ne, is, so) = subst IsSound (sym so) (sound_join m k s l o h at to ne)

-- every list of events whose needs are met leads through sound states only
pub sound_runs : (m : Machine) (es : List Event) (m' : Machine) → IsSound m → Runs m es m' → IsSound m'
sound_runs m [] m' h run = subst IsSound (sym run) h
sound_runs m (e ∷ es) m' h (r, between, act, rest) = sound_runs between es m' (sound_acts m e r between h act) rest

-- so does each list from a first state on
pub sound_from_first : (n w : ℕ) (es : List Event) (m : Machine) → n ≤ 2 ^ 32 → 1 ≤ w → w ≤ 2 ^ 32 → Runs (first n w) es m → IsSound m
sound_from_first n w es m a b c run = sound_runs (first n w) es m (sound_first n w a b c) run
