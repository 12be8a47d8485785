-- What the board's end and the workers' results say together.
use Rattle.std.proofs.Common.{◌≡◌, ℕ, ◌^◌, ◌<◌, ◌≤◌, List, [], ◌∷◌, length, min, refl, sym, ⊎_elim, arith, subst, None, Some}
use Rattle.std.specs.Prelude.{◌↔◌, Option, IsNone, IfSome, MatchOption}
use Rattle.std.specs.List.{All}
use Rattle.qn_value.specs.Tensors.{BlockValue}
use Rattle.qn_board.specs.Lists.{occurrences, IsIn, IsLeast, IsEachBelow, greatest}
use Rattle.qn_board.specs.Seats.{SeatValue}
use Rattle.qn_board.specs.Machine.{first_seat}
use Rattle.qn_board.proofs.Counting.{in_either, in_one, below_of, below_less}
use Rattle.qn_board.proofs.Settles.{in_or_not}
use Rattle.qn_pair.specs.Jobs.{JobValue, tuples_of, Passes, cost_of_job, ArePriced}
use Rattle.qn_pair.specs.Work.{numbers, IsResult}
use Rattle.qn_pair.specs.Workers.{IsFresh, IsShared, IsAll, IsClear, IsFirst, IsOutcome}
use Rattle.qn_pair.proofs.Loops.{below_once}
use Rattle.qn_value.proofs.PlacedLemmas.{all_others}

-- a board's first seat has done nothing
pub fresh_first : (w : ℕ) (s : SeatValue) → s ≡ first_seat w → IsFresh w s
fresh_first w s e = subst (IsFresh w) (sym e) (record { weight_is = refl; spent = refl; drawn = refl; noted = refl })

result_clear : (j : JobValue) (xs : List ℕ) (ds : List (ℕ × BlockValue)) (t : ℕ) → All (IsResult j xs) ds → IsIn t (numbers ds) → ¬ Passes j t
result_clear j xs [] t h has = absurd (omega arith)
result_clear j xs (d ∷ ds) t h has =
    ⊎_elim (λ a. subst (λ (v : ℕ). ¬ Passes j v) (in_one t d.0 a) (h 0 d (omega arith)).clear) (λ a. result_clear j xs ds t (all_others (IsResult j xs) d ds h) a) (in_either t (d.0 ∷ []) (numbers ds) has)

-- the seat that has the whole weight, with the results of all workers
pub record IsOver (j : JobValue) (s : SeatValue) (ds : List (ℕ × BlockValue)) : Type 0 where
  pub all : IsAll j s ds
  pub dealt : IsEachBelow (length (tuples_of j)) s.drawn
  pub passing : (t : ℕ) → IsIn t s.noted → IsIn t s.drawn × Passes j t

over_has : (j : JobValue) (s : SeatValue) (ds : List (ℕ × BlockValue)) (t : ℕ) → IsOver j s ds → t < length (tuples_of j) → IsIn t s.drawn
over_has j s ds t o lt = omega (arith, o.dealt t, below_once t (length (tuples_of j)) lt)

over_below : (j : JobValue) (s : SeatValue) (ds : List (ℕ × BlockValue)) (t : ℕ) → IsOver j s ds → IsIn t s.drawn → t < length (tuples_of j)
over_below j s ds t o has = below_of t (length (tuples_of j)) (omega (arith, o.dealt t, has))

-- where none was noted every task has its block, and none passes
pub over_none : (j : JobValue) (s : SeatValue) (ds : List (ℕ × BlockValue)) → IsOver j s ds → length (tuples_of j) ≤ 2 ^ 32 → s.noted ≡ [] → s.seen ≡ greatest → IsClear j ds
over_none j s ds o few none seen = record {
  complete = record {
    every = every;
    right = λ k d l. let r = o.all.results k d l in (over_below j s ds _ o r.drawn_it, r.block);
  };
  clear = λ t lt. result_clear j s.drawn ds t o.all.results (every t lt);
}
  where
    left : (t : ℕ) → t < length (tuples_of j) → occurrences t (numbers ds) ≡ 0 → ⊥
    left t lt gone =
        let c : s.seen < t = o.all.covered t (over_has j s ds t o lt) (subst (λ (xs : List ℕ). occurrences t xs ≡ 0) (sym none) (omega arith)) gone in
        omega (arith, c, few, lt, seen)

    every : (t : ℕ) → t < length (tuples_of j) → IsIn t (numbers ds)
    every t lt = ⊎_elim (λ a. a) (λ a. absurd (left t lt a)) (in_or_not t (numbers ds))

-- the least noted task is the first that passes
pub over_first : (j : JobValue) (s : SeatValue) (ds : List (ℕ × BlockValue)) (t : ℕ) → IsOver j s ds → IsLeast s.noted t → t ≤ s.seen → IsFirst j t
over_first j s ds t o least seen = record {
  task = there;
  passes = (o.passing t least.member).1;
  before = before;
}
  where
    there : t < length (tuples_of j)
    there = over_below j s ds t o (o.passing t least.member).0

    before : (u : ℕ) → u < t → ¬ Passes j u
    before u lt p =
        ⊎_elim (λ a. let l = least.below u a in omega (arith, l, lt))
        (λ a. ⊎_elim (λ b. result_clear j s.drawn ds u o.all.results b p) (λ b. let c : s.seen < u = o.all.covered u (over_has j s ds u o (omega (arith, lt, there))) a b in omega (arith, c, lt, seen)) (in_or_not u (numbers ds)))
        (in_or_not u s.noted)

-- what the board's end says of a seat with all its weight
pub outcome_is : (j : JobValue) (w n cost : ℕ) (s : SeatValue) (ds : List (ℕ × BlockValue)) (least : Option ℕ) → IsShared j w s cost → IsAll j s ds → 1 ≤ w → n ≡ length (tuples_of j) → n ≤ 2 ^ 32 →
    (IsNone least ↔ (s.noted ≡ [])) → IfSome least (IsLeast s.noted) → MatchOption least (s.seen ≡ greatest) (λ t. t ≤ s.seen) → (0 < s.spent → IsEachBelow n s.drawn) → IsOutcome j least ds
outcome_is j w n cost s ds least shared all some count few none first seen dealt = by least none first seen
  where
    over : IsOver j s ds
    over = record { all = all; dealt = subst (λ k. IsEachBelow k s.drawn) count (dealt (omega (arith, some, shared.weight_is, all.spent))); passing = shared.passing }

    by : (r : Option ℕ) → (IsNone r ↔ (s.noted ≡ [])) → IfSome r (IsLeast s.noted) → MatchOption r (s.seen ≡ greatest) (λ t. t ≤ s.seen) → IsOutcome j r ds
    by None n f e = over_none j s ds over (omega (arith, count, few)) (n.0 refl) e
    by (Some t) n f e = over_first j s ds t over f e

-- the numbers of all workers add up to at most the cost
pub price_all : (j : JobValue) (w n next cost : ℕ) (s : SeatValue) → ArePriced j → IsShared j w s cost → n ≡ length (tuples_of j) → IsEachBelow (min next n) s.drawn → cost ≤ cost_of_job j
price_all j w n next cost s priced shared count dealt =
    omega (arith, shared.price, priced.all s.drawn (λ t. omega (arith, dealt t, below_less t (min next n) (length (tuples_of j)) (omega (arith, count)))))

-- the arms of an outcome
pub outcome_first : (j : JobValue) (least : Option ℕ) (ds : List (ℕ × BlockValue)) (t : ℕ) → least ≡ Some t → IsOutcome j least ds → IsFirst j t
outcome_first j least ds t e o = subst (λ (p : Option ℕ). IsOutcome j p ds) e o

pub outcome_clear : (j : JobValue) (least : Option ℕ) (ds : List (ℕ × BlockValue)) → least ≡ None → IsOutcome j least ds → IsClear j ds
outcome_clear j least ds e o = subst (λ (p : Option ℕ). IsOutcome j p ds) e o
