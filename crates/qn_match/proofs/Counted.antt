-- The cost by the sums over the second shape's tuples, taken by the sectors of the shared legs.
use Rattle.std.proofs.Common.{◌≡◌, ◌≤◌, ◌<◌, ◌+◌, ◌*◌, ◌==◌, ◌^◌, ℕ, ℤ, Bool, true, false, cond, List, [], ◌∷◌, length, map, get_or, arith, refl, sym, ap, ap₂, subst, ◌∙◌, Vec, Global}
use Rattle.std.specs.Prelude.{Result, Ok, Err, IfOk}
use Rattle.std.specs.List.{All, sum_by}
use Rattle.std.proofs.lemmas.List.{get_or_default}
use Rattle.std.proofs.Math.Nat.{mul-le-mul_left}
use Rattle.std.proofs.lemmas.List.Sums.{sum_by-cons}
use Rattle.std.proofs.lemmas.List.Elements.{Contains-get_or, All-cons, All-tail}
use Rattle.qn_charge.specs.declared.factor.Factor.{Factor}
use Rattle.qn_index.specs.Legs.{LegValue, IsSound}
use Rattle.qn_index.specs.Tuples.{IsTuple, admitted}
use Rattle.qn_index.specs.Places.{block_size}
use Rattle.qn_index.specs.Extents.{size_of}
use Rattle.qn_index.proofs.Nets.{tuple_length}
use Rattle.qn_index.proofs.Admitted.{unlisted}
use Rattle.qn_match.specs.Pairs.{is_second, marks, unmarked, second_left, agree, IsShared}
use Rattle.qn_match.specs.Keys.{bases_of, digits_of, number, numbers, AreDigits, AreSums}
use Rattle.qn_match.specs.Cost.{pair_size, cost_of, IsShape}
use Rattle.qn_match.proofs.Lefts.{marks_length}
use Rattle.qn_match.proofs.LeftSizes.{left_le}
use Rattle.qn_match.proofs.Radix.{key_agrees, number_below, first_digits, second_digits, HaveSectors, some_bases, few_keys}
use Rattle.qn_match.proofs.Summing.{sum_less, sum_same, sum_scaled}

-- ---- all admissible tuples

pub admitted_tuples : (fs : List Factor) (ls : List LegValue) (q : List ℤ) → All (IsTuple ls) (admitted fs ls q)
admitted_tuples fs ls q = λ k d lt. (unlisted fs ls q (get_or (admitted fs ls q) k d) (Contains-get_or (admitted fs ls q) k d lt)).tuple

size_sum : (ls : List LegValue) (ts : List (List ℕ)) → size_of ls ts ≡ sum_by (block_size ls) ts
size_sum ls [] = refl
size_sum ls (t ∷ ts) = ap (λ n. block_size ls t + n) (size_sum ls ts) ∙ sym (sum_by-cons (block_size ls) t ts)

pub admitted_small : (fs : List Factor) (ls : List LegValue) (q : List ℤ) → IsShape fs ls q → sum_by (block_size ls) (admitted fs ls q) ≤ 2 ^ 22
admitted_small fs ls q h = omega (arith, size_sum ls (admitted fs ls q), h.limits.entries)

-- ---- the sums over the second shape

-- what summing by keys asks for
pub record CanSum (ls : List LegValue) (ms : List Bool) (ps bases : List ℕ) (ts : List (List ℕ)) : Type 0 where
  pub count : length ms ≡ length ls
  pub places : All (λ k. k < length ls) ps
  pub tuples : All (IsTuple ls) ts
  pub digits : All (λ u. AreDigits bases (digits_of ps u)) ts
  pub small : sum_by (block_size ls) ts ≤ 2 ^ 22

pub second_places : (shared : List (ℕ × ℕ)) (n : ℕ) → All (λ p. p.1 < n) shared → All (λ k. k < n) (map (λ p. p.1) shared)
second_places [] n h = λ k d lt. absurd (omega arith)
second_places (p ∷ ps) n h = All-cons (λ k. k < n) p.1 (map (λ q. q.1) ps) (h 0 p (omega arith)) (second_places ps n (All-tail (λ q. q.1 < n) p ps h))

pub first_places : (shared : List (ℕ × ℕ)) (n : ℕ) → All (λ p. p.0 < n) shared → All (λ k. k < n) (map (λ p. p.0) shared)
first_places [] n h = λ k d lt. absurd (omega arith)
first_places (p ∷ ps) n h = All-cons (λ k. k < n) p.0 (map (λ q. q.0) ps) (h 0 p (omega arith)) (first_places ps n (All-tail (λ q. q.0 < n) p ps h))

abbrev pub HasDigits : List LegValue → List ℕ → List (ℕ × ℕ) → Type 0
HasDigits ls bases shared = (u : List ℕ) → IsTuple ls u → AreDigits bases (digits_of (map (λ p. p.1) shared) u)

pub can_sum : (fs : List Factor) (ls : List LegValue) (q : List ℤ) (shared : List (ℕ × ℕ)) (bases : List ℕ) (ms : List Bool) (ps : List ℕ) (ts : List (List ℕ)) →
    ms ≡ marks (is_second shared) (length ls) → ps ≡ map (λ p. p.1) shared → ts ≡ admitted fs ls q → IsShape fs ls q → All (λ p. p.1 < length ls) shared → HasDigits ls bases shared → CanSum ls ms ps bases ts
can_sum fs ls q shared bases ms ps ts e f g shape within digits =
    let us : List (List ℕ) = admitted fs ls q in
    let base : CanSum ls (marks (is_second shared) (length ls)) (map (λ p. p.1) shared) bases us = record {
      count = marks_length (is_second shared) (length ls);
      places = second_places shared (length ls) within;
      tuples = admitted_tuples fs ls q;
      digits = λ k d lt. digits (get_or us k d) (admitted_tuples fs ls q k d lt);
      small = admitted_small fs ls q shape;
    } in
    subst (λ x. CanSum ls x ps bases ts) (sym e) (subst (λ x. CanSum ls (marks (is_second shared) (length ls)) x bases ts) (sym f) (subst (λ x. CanSum ls (marks (is_second shared) (length ls)) (map (λ p. p.1) shared) bases x) (sym g) base))

sums_alike : (key size other : List ℕ → ℕ) (n : ℕ) (us : List (List ℕ)) (sums : List ℕ) → All (λ u. size u ≡ other u) us → AreSums key size n us sums → AreSums key other n us sums
sums_alike key size other n us sums e h = record {
  count = h.count;
  each = λ k lt. h.each k lt ∙ sum_same (λ u. cond (key u == k) (size u) 0) (λ u. cond (key u == k) (other u) 0) us (λ j d small. ap (λ m. cond (key (get_or us j d) == k) m 0) (e j d small));
}

-- the sizes that are left of the second shape's tuples
abbrev pub left_sizes : List (ℕ × ℕ) → List LegValue → List ℕ → ℕ
left_sizes shared ls u = block_size (second_left shared ls) (second_left shared u)

abbrev pub second_key : List ℕ → List (ℕ × ℕ) → List ℕ → ℕ
second_key bases shared u = number bases (digits_of (map (λ p. p.1) shared) u)

pub sums_left : {E : Type 0} (fs : List Factor) (ls : List LegValue) (q : List ℤ) (shared : List (ℕ × ℕ)) (bases : List ℕ) (ms : List Bool) (ps : List ℕ) (ts : List (List ℕ)) (r : Result (Vec ℕ Global) E) →
    ms ≡ marks (is_second shared) (length ls) → ps ≡ map (λ p. p.1) shared → ts ≡ admitted fs ls q →
    IfOk r (λ v. AreSums (λ u. number bases (digits_of ps u)) (λ u. block_size (unmarked ms ls) (unmarked ms u)) (numbers bases) ts v.items) →
    IfOk r (λ v. AreSums (second_key bases shared) (left_sizes shared ls) (numbers bases) (admitted fs ls q) v.items)
sums_left fs ls q shared bases ms ps ts (Err x) e f g h = tt
sums_left fs ls q shared bases ms ps ts (Ok v) e f g h =
    let ns : List Bool = marks (is_second shared) (length ls) in
    let us : List (List ℕ) = admitted fs ls q in
    let key : List ℕ → List ℕ → ℕ = λ xs u. number bases (digits_of xs u) in
    let size : List Bool → List ℕ → ℕ = λ bs u. block_size (unmarked bs ls) (unmarked bs u) in
    let a : AreSums (key ps) (size ms) (numbers bases) us v.items = subst (λ x. AreSums (key ps) (size ms) (numbers bases) x v.items) g h in
    let b : AreSums (key ps) (size ns) (numbers bases) us v.items = subst (λ x. AreSums (key ps) (size x) (numbers bases) us v.items) e a in
    let d : AreSums (second_key bases shared) (size ns) (numbers bases) us v.items = subst (λ x. AreSums (key x) (size ns) (numbers bases) us v.items) f b in
    sums_alike (second_key bases shared) (size ns) (left_sizes shared ls) (numbers bases) us v.items
    (λ j x lt. ap (λ k. block_size (unmarked ns ls) (unmarked (marks (is_second shared) k) (get_or us j x))) (sym (tuple_length ls (get_or us j x) (admitted_tuples fs ls q j x lt)))) d

left_less : (fs : List Factor) (ls : List LegValue) (q : List ℤ) (shared : List (ℕ × ℕ)) → All IsSound ls → All (λ u. left_sizes shared ls u ≤ block_size ls u) (admitted fs ls q)
left_less fs ls q shared sound = λ j d lt.
    let u : List ℕ = get_or (admitted fs ls q) j d in
    let v : IsTuple ls u = admitted_tuples fs ls q j d lt in
    let ns : List Bool = marks (is_second shared) (length ls) in
    let e : left_sizes shared ls u ≡ block_size (unmarked ns ls) (unmarked ns u) = ap (λ k. block_size (unmarked ns ls) (unmarked (marks (is_second shared) k) u)) (tuple_length ls u v) in
    omega (arith, e, left_le ns ls u sound v (marks_length (is_second shared) (length ls)))

-- no sum is larger than all tuples together
pub sums_bounded : {E : Type 0} (fs : List Factor) (ls : List LegValue) (q : List ℤ) (shared : List (ℕ × ℕ)) (key : List ℕ → ℕ) (n : ℕ) (r : Result (Vec ℕ Global) E) → All IsSound ls → IsShape fs ls q →
    IfOk r (λ v. AreSums key (left_sizes shared ls) n (admitted fs ls q) v.items) → IfOk r (λ v. All (λ k. k ≤ 2 ^ 22) v.items)
sums_bounded fs ls q shared key n (Err x) sound shape h = tt
sums_bounded fs ls q shared key n (Ok v) sound shape h = λ k d lt.
    let us : List (List ℕ) = admitted fs ls q in
    let f : List ℕ → ℕ = λ u. cond (key u == k) (left_sizes shared ls u) 0 in
    let less : sum_by f us ≤ sum_by (block_size ls) us = sum_less f (block_size ls) us (λ j x small. part (key (get_or us j x) == k) (left_sizes shared ls (get_or us j x)) (block_size ls (get_or us j x)) (left_less fs ls q shared sound j x small)) in
    omega (arith, get_or_default v.items k d 0 lt, h.each k (omega (arith, h.count, lt)), less, admitted_small fs ls q shape)
  where
    part : (b : Bool) (m w : ℕ) → m ≤ w → cond b m 0 ≤ w
    part true m w le = le
    part false m w le = omega arith

-- ---- the total

-- what the total asks for
pub record CanCount (ks : List LegValue) (ps bases : List ℕ) (ts : List (List ℕ)) (sums : List ℕ) : Type 0 where
  pub places : All (λ k. k < length ks) ps
  pub few : numbers bases ≤ 2 ^ 20
  pub tuples : All (IsTuple ks) ts
  pub digits : All (λ u. AreDigits bases (digits_of ps u)) ts
  pub small : sum_by (block_size ks) ts ≤ 2 ^ 22

pub few_bases : (fs : List Factor) (ks : List LegValue) (p : List ℤ) (ls : List LegValue) (shared : List (ℕ × ℕ)) → All IsSound ks → IsShape fs ks p → IsShared ks ls shared → numbers (bases_of shared ks) ≤ 2 ^ 20
few_bases fs ks p ls shared sound shape h = omega (arith, few_keys shared ks sound h.first h.first_once, shape.limits.tuples)

pub can_count : (fs : List Factor) (ks : List LegValue) (p : List ℤ) (ls : List LegValue) (shared : List (ℕ × ℕ)) (bases ps : List ℕ) (ts : List (List ℕ)) (sums : List ℕ) →
    bases ≡ bases_of shared ks → ps ≡ map (λ p. p.0) shared → ts ≡ admitted fs ks p → All IsSound ks → IsShape fs ks p → IsShared ks ls shared → CanCount ks ps bases ts sums
can_count fs ks p ls shared bases ps ts sums e f g sound shape h =
    let us : List (List ℕ) = admitted fs ks p in
    let base : CanCount ks (map (λ p. p.0) shared) (bases_of shared ks) us sums = record {
      places = first_places shared (length ks) h.first;
      few = few_bases fs ks p ls shared sound shape h;
      tuples = admitted_tuples fs ks p;
      digits = λ k d lt. first_digits shared ks (get_or us k d) h.first (admitted_tuples fs ks p k d lt);
      small = admitted_small fs ks p shape;
    } in
    subst (λ x. CanCount ks ps x ts sums) (sym e) (subst (λ x. CanCount ks x (bases_of shared ks) ts sums) (sym f) (subst (λ x. CanCount ks (map (λ p. p.0) shared) (bases_of shared ks) x sums) (sym g) base))

have_sectors : (ks ls : List LegValue) (shared : List (ℕ × ℕ)) → IsShared ks ls shared → All (HaveSectors ks ls) shared
have_sectors ks ls shared h = λ k d lt. ap (λ ss. length ss) (h.meet k d lt).1

-- what the sums over the second shape ask of the bases
pub record AreBases (ks ls : List LegValue) (shared : List (ℕ × ℕ)) (bases : List ℕ) : Type 0 where
  pub some : All (λ n. 0 < n) bases
  pub few : numbers bases ≤ 2 ^ 20
  pub digits : HasDigits ls bases shared

pub are_bases : (fs : List Factor) (ks : List LegValue) (p : List ℤ) (ls : List LegValue) (shared : List (ℕ × ℕ)) (bases : List ℕ) → bases ≡ bases_of shared ks → All IsSound ks → IsShape fs ks p → IsShared ks ls shared → AreBases ks ls shared bases
are_bases fs ks p ls shared bases e sound shape h =
    let base : AreBases ks ls shared (bases_of shared ks) = record {
      some = some_bases shared ks sound h.first;
      few = few_bases fs ks p ls shared sound shape h;
      digits = λ u v. second_digits shared ks ls u h.second (have_sectors ks ls shared h) v;
    } in
    subst (λ x. AreBases ks ls shared x) (sym e) base

row : (ks ls : List LegValue) (shared : List (ℕ × ℕ)) (us : List (List ℕ)) (sums : List ℕ) (t : List ℕ) → IsTuple ks t → All (IsTuple ls) us → IsShared ks ls shared →
    AreSums (second_key (bases_of shared ks) shared) (left_sizes shared ls) (numbers (bases_of shared ks)) us sums →
    block_size ks t * get_or sums (number (bases_of shared ks) (digits_of (map (λ p. p.0) shared) t)) 0 ≡ sum_by (λ u. cond (agree shared t u) (pair_size shared ks ls t u) 0) us
row ks ls shared us sums t v all h s =
    let bases : List ℕ = bases_of shared ks in
    let k : ℕ = number bases (digits_of (map (λ p. p.0) shared) t) in
    let mine : AreDigits bases (digits_of (map (λ p. p.0) shared) t) = first_digits shared ks t h.first v in
    let f : List ℕ → ℕ = λ u. cond (second_key bases shared u == k) (left_sizes shared ls u) 0 in
    ap (λ n. block_size ks t * n) (s.each k (number_below bases (digits_of (map (λ p. p.0) shared) t) mine))
    ∙ (sym (sum_scaled (block_size ks t) f us)
    ∙ sum_same (λ u. block_size ks t * f u) (λ u. cond (agree shared t u) (pair_size shared ks ls t u) 0) us
    (λ j d lt.
    let u : List ℕ = get_or us j d in
    scaled (block_size ks t) (second_key bases shared u == k) (left_sizes shared ls u)
    ∙ ap (λ b. cond b (pair_size shared ks ls t u) 0) (key_agrees bases shared t u mine (second_digits shared ks ls u h.second (have_sectors ks ls shared h) (all j d lt)))))
  where
    scaled : (c : ℕ) (b : Bool) (n : ℕ) → c * cond b n 0 ≡ cond b (c * n) 0
    scaled c true n = refl
    scaled c false n = omega arith

-- the total is the cost
pub total_is : (fs : List Factor) (ks : List LegValue) (p : List ℤ) (ls : List LegValue) (q : List ℤ) (shared : List (ℕ × ℕ)) (bases ps : List ℕ) (ts : List (List ℕ)) (sums : List ℕ) →
    bases ≡ bases_of shared ks → ps ≡ map (λ p. p.0) shared → ts ≡ admitted fs ks p → IsShared ks ls shared →
    AreSums (second_key bases shared) (left_sizes shared ls) (numbers bases) (admitted fs ls q) sums →
    sum_by (λ t. block_size ks t * get_or sums (number bases (digits_of ps t)) 0) ts ≡ cost_of fs ks p ls q shared
total_is fs ks p ls q shared bases ps ts sums e f g h s =
    let us : List (List ℕ) = admitted fs ks p in
    let vs : List (List ℕ) = admitted fs ls q in
    let t : AreSums (second_key (bases_of shared ks) shared) (left_sizes shared ls) (numbers (bases_of shared ks)) vs sums = subst (λ x. AreSums (second_key x shared) (left_sizes shared ls) (numbers x) vs sums) e s in
    let part : List ℕ → List ℕ → List ℕ → ℕ = λ bs xs u. block_size ks u * get_or sums (number bs (digits_of xs u)) 0 in
    ap (λ x. sum_by (part bases ps) x) g
    ∙ (ap₂ (λ x y. sum_by (part x y) us) e f
    ∙ sum_same (part (bases_of shared ks) (map (λ p. p.0) shared)) (λ t. sum_by (λ u. cond (agree shared t u) (pair_size shared ks ls t u) 0) vs) us
    (λ j d lt. row ks ls shared vs sums (get_or us j d) (admitted_tuples fs ks p j d lt) (admitted_tuples fs ls q) h t))

-- the sums, where the lists of bases and of sums are called otherwise
pub sums_moved : (ls : List LegValue) (shared : List (ℕ × ℕ)) (us : List (List ℕ)) (bases sums others ns : List ℕ) → others ≡ bases → ns ≡ sums →
    AreSums (second_key bases shared) (left_sizes shared ls) (numbers bases) us sums → AreSums (second_key others shared) (left_sizes shared ls) (numbers others) us ns
sums_moved ls shared us bases sums others ns e f h =
    subst (λ x. AreSums (second_key others shared) (left_sizes shared ls) (numbers others) us x) (sym f) (subst (λ x. AreSums (second_key x shared) (left_sizes shared ls) (numbers x) us sums) (sym e) h)

-- ---- the cost of shapes that are not too wide

-- the size of a tuple of the second shape, where it is counted, is at most that of its whole block
counted_less : (c : Bool) (n x y : ℕ) → x ≤ y → cond c (n * x) 0 ≤ n * y
counted_less true n x y le = mul-le-mul_left n le
counted_less false n x y le = omega arith

pub cost_small : (fs : List Factor) (ks : List LegValue) (p : List ℤ) (ls : List LegValue) (q : List ℤ) (shared : List (ℕ × ℕ)) → All IsSound ls → IsShape fs ks p → IsShape fs ls q → cost_of fs ks p ls q shared ≤ 2 ^ 44
cost_small fs ks p ls q shared sound first second =
    let less : sum_by f ts ≤ sum_by (λ t. 2 ^ 22 * block_size ks t) ts = sum_less f (λ t. 2 ^ 22 * block_size ks t) ts (λ k d lt. each (get_or ts k d)) in
    let scaled : sum_by (λ t. 2 ^ 22 * block_size ks t) ts ≡ 2 ^ 22 * sum_by (block_size ks) ts = sum_scaled (2 ^ 22) (block_size ks) ts in
    omega (arith, less, scaled, admitted_small fs ks p first)
  where
    ts : List (List ℕ)
    ts = admitted fs ks p

    us : List (List ℕ)
    us = admitted fs ls q

    f : List ℕ → ℕ
    f t = sum_by (λ u. cond (agree shared t u) (pair_size shared ks ls t u) 0) us

    each : (t : List ℕ) → f t ≤ 2 ^ 22 * block_size ks t
    each t =
        let n : ℕ = block_size ks t in
        let less : f t ≤ sum_by (λ u. n * block_size ls u) us =
        sum_less (λ u. cond (agree shared t u) (pair_size shared ks ls t u) 0) (λ u. n * block_size ls u) us
        (λ j x lt. counted_less (agree shared t (get_or us j x)) n (left_sizes shared ls (get_or us j x)) (block_size ls (get_or us j x)) (left_less fs ls q shared sound j x lt)) in
        let scaled : sum_by (λ u. n * block_size ls u) us ≡ n * sum_by (block_size ls) us = sum_scaled n (block_size ls) us in
        let top : n * sum_by (block_size ls) us ≤ n * 2 ^ 22 = mul-le-mul_left n (admitted_small fs ls q second) in
        omega (arith, less, scaled, top)
