-- Where values of the legs stand among those of the fused leg.
use Rattle.std.proofs.Common.{◌≡◌, ◌≢◌, ℕ, ℤ, zero, suc, ◌+◌, ◌-◌, ◌≤◌, ◌<◌, List, [], ◌∷◌, ◌++◌, length, get_or, take, map, flat_map, arith, refl, ap, ◌∙◌, sym, subst, ◌⊎◌, inl, inr, true, false, nat_le, append_assoc}
use Rattle.std.specs.List.Sorted.{IsPartitionPoint}
use Rattle.std.proofs.lemmas.Bool.{cases_lt, leb-true, leb-false, false≢true}
use Rattle.std.proofs.lemmas.List.{get_or_default, take_all}
use Rattle.qn_charge.specs.declared.factor.Factor.{Factor}
use Rattle.qn_index.specs.declared.leg.Dir.{Dir}
use Rattle.qn_index.specs.Legs.{LegValue}
use Rattle.qn_index.specs.Tuples.{upward}
use Rattle.qn_index.specs.Places.{block_size, values_at}
use Rattle.qn_index.specs.Extents.{size_of}
use Rattle.qn_value.specs.Tensors.{same_values}
use Rattle.qn_value.proofs.Values.{same_values-equal}
use Rattle.qn_block.specs.Combiners.{StartValue, start_at, starts_from, stands_at, values_in, values_with, tuples_with, fused_charges, fused_values}
use Rattle.qn_block.proofs.Rows.{same_from}
use Rattle.qn_block.proofs.Partition.{values_long, size_more}
use Rattle.qn_facts.proofs.Booleans.{same_tests}

pub stands_left : (xs ys : List (List ℕ)) (k : ℕ) (vs : List ℕ) → k < length xs → stands_at (xs ++ ys) k vs ≡ stands_at xs k vs
stands_left [] ys k vs lt = absurd (omega arith)
stands_left (x ∷ xs) ys zero vs lt = refl
stands_left (x ∷ xs) ys (suc k) vs lt = stands_left xs ys k vs (omega arith)

pub stands_right : (xs ys : List (List ℕ)) (k : ℕ) (vs : List ℕ) → stands_at (xs ++ ys) (length xs + k) vs ≡ stands_at ys k vs
stands_right [] ys k vs = ap (λ n. stands_at ys n vs) (plain k)
  where
    plain : (k : ℕ) → 0 + k ≡ k
    plain k = omega arith
stands_right (x ∷ xs) ys k vs = ap (λ n. stands_at (x ∷ (xs ++ ys)) n vs) (one (length xs) k) ∙ stands_right xs ys k vs
  where
    one : (n k : ℕ) → suc n + k ≡ suc (n + k)
    one n k = omega arith

stands_map : (f : ℕ → List ℕ) (i n k : ℕ) (vs : List ℕ) → k < n → stands_at (map f (upward i n)) k vs ≡ same_values (f (i + k)) vs
stands_map f i zero k vs lt = absurd (omega arith)
stands_map f i (suc n) zero vs lt = ap (λ m. same_values (f m) vs) (plain i)
  where
    plain : (i : ℕ) → i ≡ i + 0
    plain i = omega arith
stands_map f i (suc n) (suc k) vs lt = stands_map f (i + 1) n k vs (omega arith) ∙ ap (λ m. same_values (f m) vs) (one i k)
  where
    one : (i k : ℕ) → i + 1 + k ≡ i + suc k
    one i k = omega arith

-- in the block of the i-th tuple
pub stands_block : (ls : List LegValue) (ts : List (List ℕ)) (i k : ℕ) (vs : List ℕ) → i < length ts → k < block_size ls (get_or ts i []) → stands_at (flat_map (values_in ls) ts) (size_of ls (take i ts) + k) vs ≡ same_values (values_at ls (get_or ts i []) k) vs
stands_block ls [] i k vs lt h = absurd (omega arith)
stands_block ls (t ∷ ts) zero k vs lt h =
    ap (λ n. stands_at (values_in ls t ++ flat_map (values_in ls) ts) n vs) (plain k)
    ∙ (stands_left (values_in ls t) (flat_map (values_in ls) ts) k vs (omega (arith, h, values_long ls t))
    ∙ (stands_map (values_at ls t) 0 (block_size ls t) k vs h ∙ ap (λ n. same_values (values_at ls t n) vs) (plain k)))
  where
    plain : (k : ℕ) → 0 + k ≡ k
    plain k = omega arith
stands_block ls (t ∷ ts) (suc i) k vs lt h =
    ap (λ n. stands_at (values_in ls t ++ flat_map (values_in ls) ts) n vs) (omega (arith, values_long ls t))
    ∙ (stands_right (values_in ls t) (flat_map (values_in ls) ts) (size_of ls (take i ts) + k) vs ∙ stands_block ls ts i k vs (omega arith) h)

-- the values of the charges, tuple by tuple
pub values_flat : (fs : List Factor) (ls : List LegValue) (arrow : Dir) → fused_values fs ls arrow ≡ flat_map (values_in ls) (flat_map (tuples_with fs ls arrow) (fused_charges fs ls arrow))
values_flat fs ls arrow = go (fused_charges fs ls arrow)
  where
    joined : (ts us : List (List ℕ)) → flat_map (values_in ls) (ts ++ us) ≡ flat_map (values_in ls) ts ++ flat_map (values_in ls) us
    joined [] us = refl
    joined (t ∷ ts) us = ap (λ ys. values_in ls t ++ ys) (joined ts us) ∙ sym (append_assoc (values_in ls t) (flat_map (values_in ls) ts) (flat_map (values_in ls) us))

    go : (cs : List (List ℤ)) → flat_map (values_with fs ls arrow) cs ≡ flat_map (values_in ls) (flat_map (tuples_with fs ls arrow) cs)
    go [] = refl
    go (c ∷ cs) = ap (λ ys. values_with fs ls arrow c ++ ys) (go cs) ∙ sym (joined (tuples_with fs ls arrow c) (flat_map (tuples_with fs ls arrow) cs))

-- ---- where tuples begin

pub starts_length : (ls : List LegValue) (n : ℕ) (ts : List (List ℕ)) → length (starts_from ls n ts) ≡ length ts
starts_length ls n [] = refl
starts_length ls n (t ∷ ts) = ap suc (starts_length ls (n + block_size ls t) ts)

pub start_is : (ls : List LegValue) (n : ℕ) (ts : List (List ℕ)) (i : ℕ) → i < length ts → ((start_at (starts_from ls n ts) i).tuple ≡ get_or ts i []) × ((start_at (starts_from ls n ts) i).start ≡ n + size_of ls (take i ts))
start_is ls n [] i lt = absurd (omega arith)
start_is ls n (t ∷ ts) zero lt = (refl, omega arith)
start_is ls n (t ∷ ts) (suc i) lt = let r = start_is ls (n + block_size ls t) ts i (omega arith) in (r.0, omega (arith, r.1))

pub take_grows : (ls : List LegValue) (ts : List (List ℕ)) (i j : ℕ) → i ≤ j → size_of ls (take i ts) ≤ size_of ls (take j ts)
take_grows ls ts zero j le = omega arith
take_grows ls [] (suc i) j le = omega arith
take_grows ls (t ∷ ts) (suc i) zero le = absurd (omega arith)
take_grows ls (t ∷ ts) (suc i) (suc j) le = omega (arith, take_grows ls ts i j (omega arith))

pub starts_ascend : (ls : List LegValue) (ts : List (List ℕ)) (ss : List StartValue) → ss ≡ starts_from ls 0 ts → (i j : ℕ) → i ≤ j → j < length ss → (start_at ss i).start ≤ (start_at ss j).start
starts_ascend ls ts ss e i j le lt =
    let wide : j < length ts = omega (arith, lt, ap length e, starts_length ls 0 ts) in
    let here = start_is ls 0 ts i (omega arith) in
    let there = start_is ls 0 ts j wide in
    let at_i : (start_at ss i).start ≡ (start_at (starts_from ls 0 ts) i).start = ap (λ (s : List StartValue). (start_at s i).start) e in
    let at_j : (start_at ss j).start ≡ (start_at (starts_from ls 0 ts) j).start = ap (λ (s : List StartValue). (start_at s j).start) e in
    omega (arith, at_i, at_j, here.1, there.1, take_grows ls ts i j le)

-- the tuple whose values a value is among
pub record IsAmong (ls : List LegValue) (ts : List (List ℕ)) (ss : List StartValue) (i w : ℕ) : Type 0 where
  pub tuple : (start_at ss i).tuple ≡ get_or ts i []
  pub upto : (start_at ss i).start ≤ w
  pub inner : w - (start_at ss i).start < block_size ls (get_or ts i [])
  pub stands : (vs : List ℕ) → stands_at (flat_map (values_in ls) ts) w vs ≡ same_values (values_at ls (get_or ts i []) (w - (start_at ss i).start)) vs

pub among : (ls : List LegValue) (ts : List (List ℕ)) (ss : List StartValue) (i w : ℕ) → ss ≡ starts_from ls 0 ts → w < size_of ls ts → i < length ss → (start_at ss i).start ≤ w → (i + 1 < length ss → w < (start_at ss (i + 1)).start) → IsAmong ls ts ss i w
among ls ts ss i w e few lt low high =
    let long : length ss ≡ length ts = ap length e ∙ starts_length ls 0 ts in
    let at : i < length ts = omega (arith, lt, long) in
    let here = start_is ls 0 ts i at in
    let begin : (start_at ss i).start ≡ size_of ls (take i ts) = ap (λ (s : List StartValue). (start_at s i).start) e ∙ omega (arith, here.1) in
    let more : size_of ls (take (i + 1) ts) ≡ size_of ls (take i ts) + block_size ls (get_or ts i []) = size_more ls ts i (get_or ts i []) at (get_or_default ts i [] (get_or ts i []) at) in
    let next : w < size_of ls (take (i + 1) ts) = by (cases_lt (i + 1) (length ts)) in
    let inner : w - (start_at ss i).start < block_size ls (get_or ts i []) = omega (arith, begin, more, next, low) in
    let place : w ≡ size_of ls (take i ts) + (w - (start_at ss i).start) = omega (arith, begin, low) in
    record {
      tuple = ap (λ (s : List StartValue). (start_at s i).tuple) e ∙ here.0;
      upto = low;
      inner = inner;
      stands = λ vs. ap (λ n. stands_at (flat_map (values_in ls) ts) n vs) place ∙ stands_block ls ts i (w - (start_at ss i).start) vs at inner;
    }
  where
    by : (i + 1 < length ts) ⊎ (length ts ≤ i + 1) → w < size_of ls (take (i + 1) ts)
    by (inl l) =
        let long : length ss ≡ length ts = ap length e ∙ starts_length ls 0 ts in
        let there = start_is ls 0 ts (i + 1) l in
        let begin : (start_at ss (i + 1)).start ≡ (start_at (starts_from ls 0 ts) (i + 1)).start = ap (λ (s : List StartValue). (start_at s (i + 1)).start) e in
        omega (arith, high (omega (arith, l, long)), begin, there.1)
    by (inr g) = subst (λ us. w < size_of ls us) (sym (take_all (i + 1) ts g)) few

-- ---- whether values are those at an offset of a tuple's block

-- ---- the last tuple that begins at a value or before

pub record IsLast (ss : List StartValue) (v r : ℕ) : Type 0 where
  pub some : 1 ≤ r
  pub there : r - 1 < length ss
  pub upto : (start_at ss (r - 1)).start ≤ v
  pub after : r - 1 + 1 < length ss → v < (start_at ss (r - 1 + 1)).start

pub last_is : (ss : List StartValue) (v r : ℕ) → 0 < length ss → (start_at ss 0).start ≡ 0 → r ≤ length ss → IsPartitionPoint (λ (s : StartValue). nat_le s.start v ≡ true) (λ (s : StartValue). nat_le s.start v ≡ false) ss r → IsLast ss v r
last_is ss v r some first bound point =
    let few : 1 ≤ r = by (cases_lt 0 r) in
    record {
      some = few;
      there = omega (arith, few, bound);
      upto = leb-true _ v (point.0 (r - 1) no_start (omega arith) (omega (arith, few)));
      after = λ lt. ltb-below (point.1 (r - 1 + 1) no_start (omega (arith, few)) lt);
    }
  where
    no_start : StartValue
    no_start = record { tuple = []; start = 0 }

    ltb-below : {n : ℕ} → nat_le n v ≡ false → v < n
    ltb-below {n} e = leb-false n v e

    by : (0 < r) ⊎ (r ≤ 0) → 1 ≤ r
    by (inl lt) = omega (arith, lt)
    by (inr ge) =
        let over : v < (start_at ss 0).start = leb-false _ v (point.1 0 no_start ge some) in
        absurd (omega (arith, over, first))

-- ---- values that are found

-- values match where they are those that are found
pub stands_same : (uss : List (List ℕ)) (w : ℕ) (us vs : List ℕ) → stands_at uss w us ≡ true → stands_at uss w vs ≡ same_values vs us
stands_same [] w us vs h = absurd (false≢true h)
stands_same (xs ∷ uss) zero us vs h =
    let is : xs ≡ us = same_values-equal xs us h in
    ap (λ ys. same_values ys vs) is ∙ same_tests (same_values us vs) (same_values vs us) (λ e. same_from vs us (sym (same_values-equal us vs e))) (λ e. same_from us vs (sym (same_values-equal vs us e)))
stands_same (xs ∷ uss) (suc w) us vs h = stands_same uss w us vs h
