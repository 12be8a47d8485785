-- One task more in the loop of a worker.
use Rattle.std.proofs.Common.{◌≡◌, ℕ, zero, suc, ◌+◌, ◌-◌, ◌*◌, ◌^◌, ◌<◌, ◌≤◌, ◌≢◌, List, [], ◌∷◌, ◌++◌, length, max, cond, refl, sym, ap, ◌∙◌, ⊎_elim, arith, subst, append_assoc, append-nil, Bool, true, false, eq-eqb}
use Rattle.std.specs.Prelude.{◌==◌}
use Rattle.std.specs.List.{All, sum_by}
use Rattle.std.proofs.lemmas.Bool.{false≢true, eqb-true}
use Rattle.std.proofs.lemmas.Bool.Decides.{nat_tests}
use Rattle.std.proofs.lemmas.List.Sums.{sum_by-cons, sum_by-append}
use Rattle.std.proofs.lemmas.List.Elements.{All-nil, All-cons, All-append}
use Rattle.qn_value.specs.Tensors.{BlockValue}
use Rattle.qn_board.specs.Lists.{occurrences, IsIn, once_below}
use Rattle.qn_board.specs.Seats.{SeatValue}
use Rattle.qn_board.proofs.Counting.{occurrences-append, in_either, in_left, in_right, in_one}
use Rattle.qn_pair.specs.Jobs.{JobValue, tuples_of, task_block, Passes, share_at, ArePriced}
use Rattle.qn_pair.specs.Work.{numbers, IsResult, IsWorked, IsCovered, IsAscending, IsTouched, IsOne}
use Rattle.qn_value.proofs.PlacedLemmas.{all_others}

-- a number stands in the list that has it alone, and one below n counts once
pub one_in : (t : ℕ) → IsIn t (t ∷ [])
one_in t = grind (arith, nat_tests)

pub below_once : (x n : ℕ) → x < n → once_below x n ≡ 1
below_once x n h = grind (arith, nat_tests)

-- ---- the numbers of a list, weighed

-- f of each number of a list, added up; and of each number below n
abbrev weigh : (ℕ → ℕ) → List ℕ → ℕ
weigh f [] = 0
weigh f (x ∷ xs) = f x + weigh f xs

abbrev pub below : (ℕ → ℕ) → ℕ → ℕ
below f zero = 0
below f (suc n) = below f n + f n

weigh_is : (f : ℕ → ℕ) (xs : List ℕ) → sum_by f xs ≡ weigh f xs
weigh_is f [] = refl
weigh_is f (x ∷ xs) = omega (arith, sum_by-cons f x xs, weigh_is f xs)

-- the list without a number
abbrev without : ℕ → List ℕ → List ℕ
without n [] = []
without n (x ∷ xs) = cond (x == n) (without n xs) (x ∷ without n xs)

without_times : (n x : ℕ) (xs : List ℕ) → x ≢ n → occurrences x (without n xs) ≡ occurrences x xs
without_times n x [] ne = refl
without_times n x (y ∷ ys) ne = grind (arith, nat_tests, without_times n x ys ne)

without_gone : (n : ℕ) (xs : List ℕ) → occurrences n (without n xs) ≡ 0
without_gone n [] = refl
without_gone n (y ∷ ys) = grind (arith, nat_tests, without_gone n ys)

weigh_without : (f : ℕ → ℕ) (n : ℕ) (xs : List ℕ) → weigh f xs ≡ weigh f (without n xs) + occurrences n xs * f n
weigh_without f n [] = omega arith
weigh_without f n (y ∷ ys) = go (y == n) refl (weigh_without f n ys)
  where
    go : (b : Bool) → (y == n) ≡ b → weigh f ys ≡ weigh f (without n ys) + occurrences n ys * f n → weigh f (y ∷ ys) ≡ weigh f (without n (y ∷ ys)) + occurrences n (y ∷ ys) * f n
    go true e rec =
        let p : weigh f (cond (y == n) (without n ys) (y ∷ without n ys)) ≡ weigh f (without n ys) = ap (λ (b : Bool). weigh f (cond b (without n ys) (y ∷ without n ys))) e in
        let q : (cond (y == n) 1 0 + occurrences n ys) * f n ≡ (1 + occurrences n ys) * f n = ap (λ (b : Bool). (cond b 1 0 + occurrences n ys) * f n) e in
        let r : f y ≡ f n = ap f (eqb-true y n e) in
        omega (arith, rec)
    go false e rec =
        let p : weigh f (cond (y == n) (without n ys) (y ∷ without n ys)) ≡ f y + weigh f (without n ys) = ap (λ (b : Bool). weigh f (cond b (without n ys) (y ∷ without n ys))) e in
        let q : (cond (y == n) 1 0 + occurrences n ys) * f n ≡ (0 + occurrences n ys) * f n = ap (λ (b : Bool). (cond b 1 0 + occurrences n ys) * f n) e in
        omega (arith, rec)

small_mul : (k m : ℕ) → k ≤ 1 → k * m ≤ m
small_mul zero m h = omega arith
small_mul (suc zero) m h = omega arith
small_mul (suc (suc k)) m h = absurd (omega arith)

weigh_none : (f : ℕ → ℕ) (xs : List ℕ) → ((x : ℕ) → occurrences x xs ≤ once_below x 0) → weigh f xs ≡ 0
weigh_none f [] h = refl
weigh_none f (y ∷ ys) h = absurd (let p = h y in grind (arith, nat_tests))

weigh_bound : (f : ℕ → ℕ) (n : ℕ) (xs : List ℕ) → ((x : ℕ) → occurrences x xs ≤ once_below x n) → weigh f xs ≤ below f n
weigh_bound f zero xs h = omega (arith, weigh_none f xs h)
weigh_bound f (suc n) xs h =
    let p = weigh_without f n xs in
    let q : occurrences n xs ≤ 1 = (let r = h n in grind (arith, nat_tests)) in
    let m = small_mul (occurrences n xs) (f n) q in
    let rec = weigh_bound f n (without n xs) (λ x. go x (x == n) refl) in
    omega arith
  where
    go : (x : ℕ) (b : Bool) → (x == n) ≡ b → occurrences x (without n xs) ≤ once_below x n
    go x true e = let is : n ≡ x = sym (eqb-true x n e) in subst (λ (v : ℕ). occurrences v (without n xs) ≤ once_below v n) is (omega (arith, without_gone n xs))
    go x false e = let ne : x ≢ n = (λ same. false≢true (sym e ∙ eq-eqb x n same)) in let t = without_times n x xs ne in let k = h x in grind (arith, nat_tests)

-- of a list with each number below n at most once the weights add up to at most those of all numbers below n
pub sum_bound : (f : ℕ → ℕ) (n : ℕ) (xs : List ℕ) → ((x : ℕ) → occurrences x xs ≤ once_below x n) → sum_by f xs ≤ below f n
sum_bound f n xs h = omega (arith, weigh_is f xs, weigh_bound f n xs h)

-- a worker that did nothing
pub idle : (j : JobValue) (s : SeatValue) → IsWorked j s s [] []
idle j s = record { weight = refl; seen = omega arith; drawn = sym (append-nil s.drawn); noted = sym (append-nil s.noted); passing = λ t h. absurd (omega (arith, h)) }

-- ---- the ends of a task

-- a look alone
pub looked_at : (j : JobValue) (b a : SeatValue) (t s : ℕ) → a ≡ record b { seen = s } → s ≤ b.seen → IsTouched j b a t []
looked_at j b a t s is le =
    let seen : a.seen ≡ s = ap (λ (u : SeatValue). u.seen) is in record {
      kept = is ∙ (ap (λ (xs : List ℕ). record b { noted = xs; seen = s }) (sym (append-nil b.noted)) ∙ ap (λ (v : ℕ). record b { noted = b.noted ++ []; seen = v }) (sym seen));
      seen = omega (arith, seen, le);
      passing = λ x h. absurd (omega (arith, h));
    }

-- a look and a note
pub noted_one : (j : JobValue) (b m a : SeatValue) (t s : ℕ) → m ≡ record b { seen = s } → s ≤ b.seen → a ≡ record m { noted = m.noted ++ t ∷ []; seen = a.seen } → a.seen ≤ m.seen → Passes j t → IsTouched j b a t (t ∷ [])
noted_one j b m a t s is le more less passes =
    let seen : m.seen ≡ s = ap (λ (u : SeatValue). u.seen) is in record {
      kept = more ∙ ap (λ (u : SeatValue). record u { noted = u.noted ++ t ∷ []; seen = a.seen }) is;
      seen = omega (arith, seen, le, less);
      passing = λ x h. (in_one x t h, subst (λ (v : ℕ). Passes j v) (in_one x t h) passes);
    }

pub skipped : (j : JobValue) (b a : SeatValue) (t s : ℕ) → a ≡ record b { seen = s } → s < t → IsOne j t a.seen [] []
skipped j b a t s is lt = record { results = All-nil (IsResult j (t ∷ [])); covered = λ g m. omega (arith, lt, ap (λ (u : SeatValue). u.seen) is); ascending = tt }

pub passing_one : (j : JobValue) (t seen : ℕ) → IsOne j t seen (t ∷ []) []
passing_one j t seen = record { results = All-nil (IsResult j (t ∷ [])); covered = λ g m. absurd (let h = one_in t in omega (arith, g, h)); ascending = tt }

pub done_one : (j : JobValue) (t seen : ℕ) (c : BlockValue) → ¬ Passes j t → c ≡ task_block j t → IsOne j t seen [] ((t, c) ∷ [])
done_one j t seen c fails block = record {
  results = All-cons (IsResult j (t ∷ [])) (t, c) [] (record { drawn_it = one_in t; clear = fails; block = block }) (All-nil (IsResult j (t ∷ [])));
  covered = λ g m. absurd (let h : IsIn t (t ∷ []) = one_in t in omega (arith, m, h));
  ascending = ((λ y h. absurd (omega (arith, h))), tt);
}

-- ---- the results of several tasks

pub results_more : (j : JobValue) (xs ys : List ℕ) (ds : List (ℕ × BlockValue)) → ((x : ℕ) → IsIn x xs → IsIn x ys) → All (IsResult j xs) ds → All (IsResult j ys) ds
results_more j xs ys ds sub h k d l = let r = h k d l in record { drawn_it = sub _ r.drawn_it; clear = r.clear; block = r.block }

pub numbers-append : (ds es : List (ℕ × BlockValue)) → numbers (ds ++ es) ≡ numbers ds ++ numbers es
numbers-append [] es = refl
numbers-append (d ∷ ds) es = ap (λ xs. d.0 ∷ xs) (numbers-append ds es)

ascending-append : (xs ys : List ℕ) → IsAscending xs → IsAscending ys → ((x y : ℕ) → IsIn x xs → IsIn y ys → x < y) → IsAscending (xs ++ ys)
ascending-append [] ys h k less = k
ascending-append (x ∷ xs) ys h k less = ((λ y has. ⊎_elim (λ a. h.0 y a) (λ a. less x y (in_left x (x ∷ []) xs (one_in x)) a) (in_either y xs ys has)), ascending-append xs ys h.1 k (λ a b p q. less a b (in_right a (x ∷ []) xs p) q))

-- a result's number is one of those that were drawn
result_drawn : (j : JobValue) (xs : List ℕ) (ds : List (ℕ × BlockValue)) (x : ℕ) → All (IsResult j xs) ds → IsIn x (numbers ds) → IsIn x xs
result_drawn j xs [] x h has = absurd (omega arith)
result_drawn j xs (d ∷ ds) x h has =
    ⊎_elim (λ a. subst (λ (v : ℕ). IsIn v xs) (in_one x d.0 a) (h 0 d (omega arith)).drawn_it) (λ a. result_drawn j xs ds x (all_others (IsResult j xs) d ds h) a) (in_either x (d.0 ∷ []) (numbers ds) has)

-- what a worker has done so far
pub record IsLoop (j : JobValue) (before now : SeatValue) (cost : ℕ) (ds : List (ℕ × BlockValue)) (new gained : List ℕ) : Type 0 where
  pub worked : IsWorked j before now new gained
  pub spent : now.spent ≡ before.spent
  pub results : All (IsResult j new) ds
  pub covered : IsCovered new gained ds now.seen
  pub price : cost ≤ sum_by (share_at j) new
  pub ascending : IsAscending (numbers ds)
  pub once : (x : ℕ) → occurrences x new ≤ once_below x (length (tuples_of j))

pub loop_first : (j : JobValue) (s : SeatValue) → IsLoop j s s 0 [] [] []
loop_first j s = record {
  worked = idle j s;
  spent = refl;
  results = All-nil (IsResult j []);
  covered = λ t h. absurd (omega arith);
  price = omega arith;
  ascending = tt;
  once = λ x. omega arith;
}

zero_when : (k : ℕ) → (0 < k → ⊥) → k ≡ 0
zero_when zero f = refl
zero_when (suc k) f = absurd (f (omega arith))

-- a drawn number is new
pub once_more : (n t : ℕ) (new : List ℕ) → t < n → ((x : ℕ) → IsIn x new → x < t) → ((x : ℕ) → occurrences x new ≤ once_below x n) → (x : ℕ) → occurrences x (new ++ t ∷ []) ≤ once_below x n
once_more n t new lt above once x = go (t == x) refl
  where
    go : (b : Bool) → (t == x) ≡ b → occurrences x (new ++ t ∷ []) ≤ once_below x n
    go true e =
        let is : t ≡ x = eqb-true t x e in
        let none : occurrences x new ≡ 0 = zero_when (occurrences x new) (λ h. let p = above x h in omega arith) in
        let a = occurrences-append x new (t ∷ []) in
        let c : once_below x n ≡ 1 = below_once x n (omega arith) in
        let k : occurrences x (t ∷ []) ≡ 1 = grind (arith, nat_tests) in omega arith
    go false e = let a = occurrences-append x new (t ∷ []) in let k : occurrences x (t ∷ []) ≡ 0 = grind (arith, nat_tests) in let o = once x in omega arith

-- every number that this worker drew is below the next one
new_above : (j : JobValue) (before now : SeatValue) (cost t : ℕ) (ds : List (ℕ × BlockValue)) (new gained : List ℕ) → IsLoop j before now cost ds new gained → ((x : ℕ) → IsIn x now.drawn → x < t) → (x : ℕ) → IsIn x new → x < t
new_above j before now cost t ds new gained l above x h = above x (subst (λ (xs : List ℕ). IsIn x xs) (sym l.worked.drawn) (in_right x before.drawn new h))

-- the seat and the bound on the steps after one drawn task more
pub record IsMoved (j : JobValue) (before after : SeatValue) (cost : ℕ) (new gained : List ℕ) : Type 0 where
  pub worked : IsWorked j before after new gained
  pub spent : after.spent ≡ before.spent
  pub price : cost ≤ sum_by (share_at j) new

pub loop_moved : (j : JobValue) (before now mid after : SeatValue) (cost more_cost t : ℕ) (ds : List (ℕ × BlockValue)) (new gained g : List ℕ)
    → IsLoop j before now cost ds new gained → mid ≡ record now { drawn = now.drawn ++ t ∷ [] } → more_cost ≤ share_at j t → IsTouched j mid after t g
    → IsMoved j before after (cost + more_cost) (new ++ t ∷ []) (gained ++ g)
loop_moved j before now mid after cost more_cost t ds new gained g l drew paid o =
    let w = l.worked in
    let weight : after.weight ≡ now.weight = ap (λ (u : SeatValue). u.weight) o.kept ∙ ap (λ (u : SeatValue). u.weight) drew in
    let spent : after.spent ≡ now.spent = ap (λ (u : SeatValue). u.spent) o.kept ∙ ap (λ (u : SeatValue). u.spent) drew in
    let seen : mid.seen ≡ now.seen = ap (λ (u : SeatValue). u.seen) drew in
    let drawn : after.drawn ≡ now.drawn ++ t ∷ [] = ap (λ (u : SeatValue). u.drawn) o.kept ∙ ap (λ (u : SeatValue). u.drawn) drew in
    let noted : after.noted ≡ now.noted ++ g = ap (λ (u : SeatValue). u.noted) o.kept ∙ ap (λ (u : SeatValue). u.noted ++ g) drew in
    record {
      worked = record {
        weight = weight ∙ w.weight;
        seen = omega (arith, w.seen, o.seen, seen);
        drawn = drawn ∙ (ap (λ xs. xs ++ t ∷ []) w.drawn ∙ append_assoc before.drawn new (t ∷ []));
        noted = noted ∙ (ap (λ xs. xs ++ g) w.noted ∙ append_assoc before.noted gained g);
        passing = λ x h. ⊎_elim (λ a. let p = w.passing x a in (in_left x new (t ∷ []) p.0, p.1)) (λ a. let p = o.passing x a in (in_right x new (t ∷ []) (subst (λ (v : ℕ). IsIn v (t ∷ [])) p.0 (one_in t)), p.1)) (in_either x gained g h);
      };
      spent = spent ∙ l.spent;
      price = omega (arith, l.price, paid, sum_by-append (share_at j) new (t ∷ []), sum_by-cons (share_at j) t []);
    }

-- a task was drawn, and done or not
pub loop_more : (j : JobValue) (before now mid after : SeatValue) (cost more_cost t : ℕ) (ds more : List (ℕ × BlockValue)) (new gained g : List ℕ)
    → IsLoop j before now cost ds new gained → mid ≡ record now { drawn = now.drawn ++ t ∷ [] } → t < length (tuples_of j) → ((x : ℕ) → IsIn x now.drawn → x < t) → more_cost ≤ share_at j t → IsTouched j mid after t g → IsOne j t after.seen g more
    → IsLoop j before after (cost + more_cost) (ds ++ more) (new ++ t ∷ []) (gained ++ g)
loop_more j before now mid after cost more_cost t ds more new gained g l drew lt above paid k o =
    let m = loop_moved j before now mid after cost more_cost t ds new gained g l drew paid k in
    let seen : mid.seen ≡ now.seen = ap (λ (u : SeatValue). u.seen) drew in
    record {
      worked = m.worked;
      spent = m.spent;
      price = m.price;
      results = All-append (IsResult j (new ++ t ∷ [])) ds more (results_more j new (new ++ t ∷ []) ds (λ x h. in_left x new (t ∷ []) h) l.results) (results_more j (t ∷ []) (new ++ t ∷ []) more (λ x h. in_right x new (t ∷ []) h) o.results);
      covered = λ x h none gone.
          let a = occurrences-append x gained g in
          let b : occurrences x (numbers (ds ++ more)) ≡ occurrences x (numbers ds) + occurrences x (numbers more) = ap (occurrences x) (numbers-append ds more) ∙ occurrences-append x (numbers ds) (numbers more) in
          ⊎_elim (λ c. let p = l.covered x c (omega arith) (omega arith) in omega (arith, p, k.seen, seen))
          (λ c. let is : t ≡ x = in_one x t c in let u : occurrences t g ≡ 0 = ap (λ (v : ℕ). occurrences v g) is ∙ omega arith in let u' : occurrences t (numbers more) ≡ 0 = ap (λ (v : ℕ). occurrences v (numbers more)) is ∙ omega arith in let p = o.covered u u' in omega arith)
          (in_either x new (t ∷ []) h);
      ascending = subst IsAscending (sym (numbers-append ds more)) (ascending-append (numbers ds) (numbers more) l.ascending o.ascending
          (λ x y p q. let a = new_above j before now cost t ds new gained l above x (result_drawn j new ds x l.results p) in let b = in_one y t (result_drawn j (t ∷ []) more y o.results q) in omega arith));
      once = once_more (length (tuples_of j)) t new lt (new_above j before now cost t ds new gained l above) l.once;
    }

-- each task was drawn once at most, the next one included
pub once_next : (j : JobValue) (before now : SeatValue) (cost t : ℕ) (ds : List (ℕ × BlockValue)) (new gained : List ℕ) → IsLoop j before now cost ds new gained → t < length (tuples_of j) → ((x : ℕ) → IsIn x now.drawn → x < t)
    → (x : ℕ) → occurrences x (new ++ t ∷ []) ≤ once_below x (length (tuples_of j))
once_next j before now cost t ds new gained l lt above =
    once_more (length (tuples_of j)) t new lt (new_above j before now cost t ds new gained l above) l.once

-- the sum of the prices fits
pub price_fits : (j : JobValue) (before now : SeatValue) (cost more_cost t : ℕ) (ds : List (ℕ × BlockValue)) (new gained : List ℕ) → IsLoop j before now cost ds new gained → t < length (tuples_of j) → ((x : ℕ) → IsIn x now.drawn → x < t) →
    more_cost ≤ share_at j t → ArePriced j → cost + more_cost ≤ 2 ^ 44
price_fits j before now cost more_cost t ds new gained l lt above paid priced =
    omega (
      arith,
      l.price,
      paid,
      sum_by-append (share_at j) new (t ∷ []),
      sum_by-cons (share_at j) t [],
      priced.all (new ++ t ∷ []) (once_next j before now cost t ds new gained l lt above),
      priced.small,
    )

-- above every number of a list
abbrev pub above_all : List ℕ → ℕ
above_all [] = 0
above_all (x ∷ xs) = max (x + 1) (above_all xs)

above_le : (xs : List ℕ) (t : ℕ) → ((x : ℕ) → IsIn x xs → x < t) → above_all xs ≤ t
above_le [] t h = omega arith
above_le (y ∷ ys) t h = let p : y < t = h y (in_left y (y ∷ []) ys (one_in y)) in let q = above_le ys t (λ x k. h x (in_right x (y ∷ []) ys k)) in omega arith

above-append : (xs : List ℕ) (t : ℕ) → above_all (xs ++ t ∷ []) ≡ max (above_all xs) (t + 1)
above-append [] t = omega arith
above-append (x ∷ xs) t = omega (arith, above-append xs t)

pub nearer : (n t : ℕ) (drawn later : List ℕ) → t < n → ((x : ℕ) → IsIn x drawn → x < t) → later ≡ drawn ++ t ∷ [] → n - above_all later < n - above_all drawn
nearer n t drawn later lt h is = let a = above_le drawn t h in let b = above-append drawn t in let p : above_all later ≡ above_all (drawn ++ t ∷ []) = ap above_all is in omega arith
