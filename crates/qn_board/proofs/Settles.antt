-- Where one seat has the whole weight and has spent it, every task was drawn, and the least that passes was noted.
use Rattle.std.proofs.Common.{◌≡◌, ◌<◌, cond, nat_lt, true, false, Bool, ℕ, zero, suc, ◌+◌, ◌-◌, ◌≤◌, ◌⊎◌, List, [], ◌∷◌, min, refl, sym, ap, ◌∙◌, inl, inr, ⊎_elim, arith, subst}
use Rattle.std.specs.Prelude.{Option, Some, None}
use Rattle.qn_board.specs.Lists.{occurrences, IsIn, IsEachBelow, greatest, least_of}
use Rattle.qn_board.specs.Seats.{SeatValue, seat_at, total, least_noted}
use Rattle.qn_board.specs.Machine.{Machine, after_draw, after_note, after_look, after_split, after_join, IsTransition}
use Rattle.qn_board.specs.declared.event.Event.{Event}
use Rattle.qn_board.specs.declared.event.Event.TheVariants.{Draw, Note, Look, Split, Join}
use Rattle.qn_board.specs.declared.event.Reply.{Reply}
use Rattle.qn_board.specs.declared.event.Reply.TheVariants.{Task, Empty}
use Rattle.std.proofs.lemmas.Bool.{ltb-true}
use Rattle.qn_board.proofs.Keeps.{drawn_below}
use Rattle.qn_board.specs.Sound.{IsSound, IsUndrawn, IsFinished, IsDecided}
use Rattle.qn_board.proofs.Counting.{least_of_le, least_of_under, least_of_member}
use Rattle.qn_board.proofs.Seating.{one_seat, total_part}

-- each live seat has some weight, so where the others have none there are no others
empty_total : (f : SeatValue → ℕ) (ss : List (Option SeatValue)) → ((j : ℕ) (u : SeatValue) → seat_at ss j ≡ Some u → 1 ≤ u.weight) → total (λ (u : SeatValue). u.weight) ss ≡ 0 → total f ss ≡ 0
empty_total f [] all e = refl
empty_total f (None ∷ ss) all e = empty_total f ss (λ j u h. all (suc j) u h) e
empty_total f (Some s ∷ ss) all e = absurd (let p = all zero s refl in omega arith)

empty_least : (ss : List (Option SeatValue)) → ((j : ℕ) (u : SeatValue) → seat_at ss j ≡ Some u → 1 ≤ u.weight) → total (λ (u : SeatValue). u.weight) ss ≡ 0 → least_noted ss ≡ greatest
empty_least [] all e = refl
empty_least (None ∷ ss) all e = empty_least ss (λ j u h. all (suc j) u h) e
empty_least (Some s ∷ ss) all e = absurd (let p = all zero s refl in omega arith)

pub alone : (f : SeatValue → ℕ) (ss : List (Option SeatValue)) (k : ℕ) (s : SeatValue) → ((j : ℕ) (u : SeatValue) → seat_at ss j ≡ Some u → 1 ≤ u.weight) → seat_at ss k ≡ Some s → s.weight ≡ total (λ (u : SeatValue). u.weight) ss → total f ss ≡ f s
alone f [] k s all e w = absurd (cc e)
alone f (None ∷ ss) zero s all e w = absurd (cc e)
alone f (None ∷ ss) (suc k) s all e w = alone f ss k s (λ j u h. all (suc j) u h) e w
alone f (Some t ∷ ss) zero s all e w =
    let same : t ≡ s = cc e in
    let p : t.weight ≡ s.weight = ap (λ (u : SeatValue). u.weight) same in
    let q : f t ≡ f s = ap f same in
    let z = empty_total f ss (λ j u h. all (suc j) u h) (omega arith) in omega arith
alone f (Some t ∷ ss) (suc k) s all e w = absurd (let p = all zero t refl in let q = total_part (λ (u : SeatValue). u.weight) ss k s e in omega arith)

alone_least : (ss : List (Option SeatValue)) (k : ℕ) (s : SeatValue) → ((j : ℕ) (u : SeatValue) → seat_at ss j ≡ Some u → 1 ≤ u.weight) → seat_at ss k ≡ Some s → s.weight ≡ total (λ (u : SeatValue). u.weight) ss → least_noted ss ≡ least_of s.noted
alone_least [] k s all e w = absurd (cc e)
alone_least (None ∷ ss) zero s all e w = absurd (cc e)
alone_least (None ∷ ss) (suc k) s all e w = alone_least ss k s (λ j u h. all (suc j) u h) e w
alone_least (Some t ∷ ss) zero s all e w =
    let same : t ≡ s = cc e in
    let p : t.weight ≡ s.weight = ap (λ (u : SeatValue). u.weight) same in
    let q : least_of t.noted ≡ least_of s.noted = ap (λ (u : SeatValue). least_of u.noted) same in
    let z = empty_least ss (λ j u h. all (suc j) u h) (omega arith) in omega (arith, least_of_le s.noted)
alone_least (Some t ∷ ss) (suc k) s all e w = absurd (let p = all zero t refl in let q = total_part (λ (u : SeatValue). u.weight) ss k s e in omega arith)

spent_paid : (ss : List (Option SeatValue)) → ((j : ℕ) (u : SeatValue) → seat_at ss j ≡ Some u → u.spent ≤ u.weight) → total (λ (u : SeatValue). u.spent) ss ≤ total (λ (u : SeatValue). u.weight) ss
spent_paid [] all = omega arith
spent_paid (None ∷ ss) all = spent_paid ss (λ j u h. all (suc j) u h)
spent_paid (Some s ∷ ss) all = let p = all zero s refl in omega (arith, spent_paid ss (λ j u h. all (suc j) u h))

-- next is at most the tasks and the weight
pub next_bound : (m : Machine) → IsSound m → m.next ≤ m.n + m.whole
next_bound m h = let p = spent_paid m.seats (λ j u e. (h.each j u e).spent) in let q = h.spent in let r = h.weights in omega arith

-- What a seat of the whole weight knows
pub record IsWhole (m : Machine) (s : SeatValue) : Type 0 where
  pub drawn : IsEachBelow (min m.next m.n) s.drawn
  pub spent : s.spent ≡ m.next - min m.next m.n
  pub least : m.least ≡ least_of s.noted
  pub seen : m.least ≤ s.seen

pub whole_knows : (m : Machine) (k : ℕ) (s : SeatValue) → IsSound m → seat_at m.seats k ≡ Some s → s.weight ≡ m.whole → IsWhole m s
whole_knows m k s h e w =
    let all : (j : ℕ) (u : SeatValue) → seat_at m.seats j ≡ Some u → 1 ≤ u.weight = λ j u q. (h.each j u q).positive in
    let w' : s.weight ≡ total (λ (u : SeatValue). u.weight) m.seats = w ∙ sym h.weights in record {
      drawn = λ x. sym (alone (λ (u : SeatValue). occurrences x u.drawn) m.seats k s all e w') ∙ h.drawn x;
      spent = sym (alone (λ (u : SeatValue). u.spent) m.seats k s all e w') ∙ h.spent;
      least = h.least ∙ alone_least m.seats k s all e w';
      seen = (h.each k s e).above;
    }

pub in_or_not : (x : ℕ) (xs : List ℕ) → IsIn x xs ⊎ (occurrences x xs ≡ 0)
in_or_not x xs = go (occurrences x xs) refl
  where
    go : (n : ℕ) → occurrences x xs ≡ n → IsIn x xs ⊎ (occurrences x xs ≡ 0)
    go zero e = inr e
    go (suc n) e = inl (omega arith)

pub decided : (m : Machine) (k : ℕ) (s : SeatValue) (done passing : List ℕ) → IsSound m → seat_at m.seats k ≡ Some s → IsFinished m done passing s → IsDecided m done passing s
decided m k s done passing h e z =
    let w = whole_knows m k s h e z.whole in
    let positive = (h.each k s e).positive in
    let a = w.spent in
    let b = z.whole in
    let c = z.spent in
    let all : min m.next m.n ≡ m.n = omega arith in
    let above : (t : ℕ) → IsIn t passing → m.least ≤ t =
    λ t has. ⊎_elim
    (λ d. let p = least_of_under t s.noted (z.kept t d has) in let q = w.least in omega arith)
    (λ d. let p = z.left t (z.tasks t has) d in let q = w.seen in omega arith)
    (in_or_not t done) in
    let lower : m.least ≤ least_of passing =
    ⊎_elim (λ g. let p = w.least in omega (arith, least_of_le s.noted)) (λ has. above (least_of passing) has) (least_of_member passing) in
    let upper : least_of passing ≤ m.least =
    ⊎_elim (λ g. let p = w.least in omega (arith, least_of_le passing))
    (λ has. let p = least_of_under (least_of s.noted) passing (z.noted (least_of s.noted) has).1 in let q = w.least in omega arith)
    (least_of_member s.noted) in
    let tasks = h.tasks in record {
      drawn = subst (λ (v : ℕ). IsEachBelow v s.drawn) all w.drawn;
      least = omega arith;
      all = λ none t lt.
          let g : m.least ≡ greatest = (let p = ap least_of none in omega arith) in
          ⊎_elim (λ d. d) (λ d. absurd (let p = z.left t lt d in let q = w.seen in omega arith)) (in_or_not t done);
    }

-- a seat that spent anything shows that no task is left
pub spent_all : (m : Machine) (k : ℕ) (s : SeatValue) → IsSound m → seat_at m.seats k ≡ Some s → 0 < s.spent → m.n ≤ m.next
spent_all m k s h e positive = let p = total_part (λ (u : SeatValue). u.spent) m.seats k s e in let q = h.spent in omega arith

alone_at : (ss : List (Option SeatValue)) (k j : ℕ) (s u : SeatValue) → ((j : ℕ) (u : SeatValue) → seat_at ss j ≡ Some u → 1 ≤ u.weight) → seat_at ss k ≡ Some s → seat_at ss j ≡ Some u → total (λ (u : SeatValue). u.weight) ss ≤ s.weight → j ≡ k
alone_at [] k j s u all e f w = absurd (cc e)
alone_at (t ∷ ss) zero zero s u all e f w = refl
alone_at (None ∷ ss) zero (suc j) s u all e f w = absurd (cc e)
alone_at (Some t ∷ ss) zero (suc j) s u all e f w =
    absurd (let same : t ≡ s = cc e in let p : t.weight ≡ s.weight = ap (λ (x : SeatValue). x.weight) same in let q = total_part (λ (x : SeatValue). x.weight) ss j u f in let r = all (suc j) u f in omega arith)
alone_at (None ∷ ss) (suc k) zero s u all e f w = absurd (cc f)
alone_at (Some t ∷ ss) (suc k) zero s u all e f w = absurd (let p = total_part (λ (x : SeatValue). x.weight) ss k s e in let r = all zero t refl in omega arith)
alone_at (None ∷ ss) (suc k) (suc j) s u all e f w = ap suc (alone_at ss k j s u (λ i v h. all (suc i) v h) e f w)
alone_at (Some t ∷ ss) (suc k) (suc j) s u all e f w = ap suc (alone_at ss k j s u (λ i v h. all (suc i) v h) e f (omega arith))

-- a seat of the whole weight is the only live one
pub only_one : (m : Machine) (k j : ℕ) (s u : SeatValue) → IsSound m → seat_at m.seats k ≡ Some s → seat_at m.seats j ≡ Some u → s.weight ≡ m.whole → j ≡ k
only_one m k j s u h e f w = let p = h.weights in alone_at m.seats k j s u (λ i v q. (h.each i v q).positive) e f (omega arith)

-- a draw that answers a task answers one that no live seat drew
pub draws_once : (m : Machine) (k t : ℕ) (m' : Machine) → IsSound m → IsTransition m (Draw k) (Task t) m' → (t < m.n) × IsUndrawn m t
draws_once m k t m' h (s, at, spare, is, so) = go (nat_lt m.next m.n) refl
  where
    go : (b : Bool) → nat_lt m.next m.n ≡ b → (t < m.n) × IsUndrawn m t
    go true c =
        let q : Task t ≡ Task m.next = is ∙ ap (λ (v : Bool). cond v (Task m.next) Empty) c in
        let e : t ≡ m.next = cc q in
        let lt : m.next < m.n = ltb-true m.next m.n c in
        (omega arith, (λ j u here has. let p = drawn_below m j u t h here has in omega arith))
    go false c = absurd (let q : Task t ≡ Empty = is ∙ ap (λ (v : Bool). cond v (Task m.next) Empty) c in cc q)

-- an event has one answer and leaves one state
pub one_transition : (m : Machine) (e : Event) (r q : Reply) (m' m'' : Machine) → IsTransition m e r m' → IsTransition m e q m'' → (q ≡ r) × (m'' ≡ m')
one_transition m (Draw k) r q m' m'' (s, at, a, is, so) (u, at', a', is', so') =
    (is' ∙ sym is, so' ∙ (ap (after_draw m k) (one_seat (seat_at m.seats k) s u at at') ∙ sym so))
one_transition m (Note k t) r q m' m'' (s, at, a, is, so) (u, at', a', is', so') =
    (is' ∙ sym is, so' ∙ (ap (λ (v : SeatValue). after_note m k v t) (one_seat (seat_at m.seats k) s u at at') ∙ sym so))
one_transition m (Look k) r q m' m'' (s, at, is, so) (u, at', is', so') =
    (is' ∙ sym is, so' ∙ (ap (after_look m k) (one_seat (seat_at m.seats k) s u at at') ∙ sym so))
one_transition m (Split k g) r q m' m'' (s, at, a, b, is, so) (u, at', a', b', is', so') =
    (is' ∙ sym is, so' ∙ (ap (λ (v : SeatValue). after_split m k v g) (one_seat (seat_at m.seats k) s u at at') ∙ sym so))
one_transition m (Join k l) r q m' m'' (s, o, at, to, ne, is, so) (u, p, at', to', ne', is', so') =
    (is' ∙ sym is, so' ∙ (ap (λ (v : SeatValue). after_join m k v l p) (one_seat (seat_at m.seats k) s u at at') ∙ (ap (after_join m k s l) (one_seat (seat_at m.seats l) o p to to') ∙ sym so)))
