-- Counts by charge: what one leg more, a sort and a joining of rows do to them.
use Rattle.std.proofs.Common.{◌≡◌, ℕ, zero, suc, ◌+◌, ◌*◌, ◌≤◌, ◌<◌, ◌-◌, ◌^◌, ◌⊎◌, inl, inr, ℤ, List, [], ◌∷◌, ◌++◌, length, map, Bool, true, false, cond, arith, refl, ap, ◌∙◌, sym, subst, append_assoc, length-append, min, get_or, take, drop}
use Rattle.std.specs.List.{All, sum_by}
use Rattle.std.specs.List.Sorted.{IsPermutation}
use Rattle.std.specs.Cmp.Lexicographic.{pointwise}
use Rattle.std.specs.Ordering.{int_eq}
use Rattle.std.specs.Cmp.Rules.{signed_items}
use Rattle.std.proofs.lemmas.List.{take_all, length-drop, drop-drop, at_drop_more, drop_all, get_or_default, get_or_append_left}
use Rattle.std.proofs.Math.Seq.{get_or-append_right}
use Rattle.std.proofs.lemmas.List.Sums.{sum_by-cons}
use Rattle.std.proofs.lemmas.List.Sorted.{sum_by-IsPermutation, All-permutation}
use Rattle.std.proofs.lemmas.List.Elements.{All-nil, All-cons, All-map, All-append, All-tail}
use Rattle.std.proofs.lemmas.Bool.{cases_lt}
use Rattle.std.proofs.Math.Nat.{mul_comm}
use Rattle.qn_charge.specs.declared.factor.Factor.{Factor}
use Rattle.qn_charge.specs.Charges.{zero_charge, sum_charge, neg_charge, IsCanonical, IsWithin, IsGroup}
use Rattle.qn_charge.specs.Laws.{canonical_sum, within_sum, within_neg, within_more, within_zero, canonical_zero}
use Rattle.qn_index.specs.declared.leg.Dir.{Dir}
use Rattle.qn_index.specs.declared.leg.Dir.TheVariants.{Out, In}
use Rattle.qn_index.specs.Legs.{LegValue, sector_at, no_sector, IsLegOf}
use Rattle.qn_index.specs.Tuples.{turned, signed, upward, count}
use Rattle.qn_index.specs.Extents.{capped, entries, size_of}
use Rattle.qn_index.specs.Weights.{WeightValue, weight, has_charge, moved, spread, remaining, IsRow, IsTable}
use Rattle.qn_index.proofs.Shapes.{count_step}
use Rattle.qn_index.proofs.Admitted.{test_remaining, total_over, entries_step, mul_add}
use Rattle.qn_facts.proofs.Booleans.{same_tests}

-- ---- numbers that are capped

pub capped_sum : (k a b x y : ℕ) → capped k a ≡ capped k x → capped k b ≡ capped k y → capped k (a + b) ≡ capped k (x + y)
capped_sum k a b x y p q = omega (arith, p, q)

pub capped_twice : (k a : ℕ) → capped k (capped k a) ≡ capped k a
capped_twice k a = omega arith

more_times : (d a : ℕ) → a ≤ suc d * a
more_times d a = let s : suc d * a ≡ d * a + a = omega arith in omega (arith, s)

pub capped_times : (k d a b : ℕ) → capped k a ≡ capped k b → capped k (d * a) ≡ capped k (d * b)
capped_times k zero a b e = let z : 0 * a ≡ 0 * b = omega arith in ap (capped k) z
capped_times k (suc d) a b e = by (cases_lt k a) (cases_lt k b)
  where
    by : (k < a) ⊎ (a ≤ k) → (k < b) ⊎ (b ≤ k) → capped k (suc d * a) ≡ capped k (suc d * b)
    by (inl p) (inl q) = omega (arith, more_times d a, more_times d b)
    by (inl p) (inr q) = absurd (omega (arith, e))
    by (inr p) (inl q) = absurd (omega (arith, e))
    by (inr p) (inr q) = let same : a ≡ b = omega (arith, e) in ap (λ n. capped k (suc d * n)) same

pub capped_total : (k : ℕ) (f g : ℕ → ℕ) (ss : List ℕ) → ((s : ℕ) → capped k (f s) ≡ capped k (g s)) → capped k (total_over f ss) ≡ capped k (total_over g ss)
capped_total k f g [] h = refl
capped_total k f g (s ∷ ss) h = capped_sum k (f s) (total_over f ss) (g s) (total_over g ss) (h s) (capped_total k f g ss h)

-- ---- weights

pub weight_append : (vs ws : List WeightValue) (c : List ℤ) → weight (vs ++ ws) c ≡ weight vs c + weight ws c
weight_append [] ws c = omega arith
weight_append (v ∷ vs) ws c = omega (arith, weight_append vs ws c)

weight_is : (ws : List WeightValue) (c : List ℤ) → weight ws c ≡ sum_by (λ (w : WeightValue). cond (pointwise int_eq w.charge c) w.count 0) ws
weight_is [] c = refl
weight_is (w ∷ ws) c = ap (λ n. cond (pointwise int_eq w.charge c) w.count 0 + n) (weight_is ws c) ∙ sym (sum_by-cons (λ (v : WeightValue). cond (pointwise int_eq v.charge c) v.count 0) w ws)

-- the order of the rows does not matter
pub weight_sorted : (vs ws : List WeightValue) (c : List ℤ) → IsPermutation vs ws → weight ws c ≡ weight vs c
weight_sorted vs ws c h = weight_is ws c ∙ (sum_by-IsPermutation (λ (w : WeightValue). cond (pointwise int_eq w.charge c) w.count 0) vs ws h ∙ sym (weight_is vs c))

-- one sector more
weight_moved : (fs : List Factor) (n d : ℕ) (own c : List ℤ) (ws : List WeightValue) → IsGroup fs → IsCanonical fs c → All (IsRow n fs) ws → capped (2 ^ 22) (weight (map (moved fs own d) ws) c) ≡ capped (2 ^ 22) (d * weight ws (remaining fs own c))
weight_moved fs n d own c [] g h a = let z : 0 ≡ d * 0 = omega arith in ap (capped (2 ^ 22)) z
weight_moved fs n d own c (w ∷ ws) g h a =
    by (pointwise int_eq w.charge (remaining fs own c)) (pointwise int_eq (sum_charge fs own w.charge) c)
    (test_remaining fs own w.charge c g (a 0 w (omega arith)).canonical h)
    (weight_moved fs n d own c ws g h (All-tail (IsRow n fs) w ws a))
  where
    by : (b t : Bool) → t ≡ b → capped (2 ^ 22) (weight (map (moved fs own d) ws) c) ≡ capped (2 ^ 22) (d * weight ws (remaining fs own c)) → capped (2 ^ 22) (cond t (capped (2 ^ 22) (d * w.count)) 0 + weight (map (moved fs own d) ws) c) ≡ capped (2 ^ 22) (d * (cond b w.count 0 + weight ws (remaining fs own c)))
    by true true e more =
        capped_sum (2 ^ 22) (capped (2 ^ 22) (d * w.count)) (weight (map (moved fs own d) ws) c) (d * w.count) (d * weight ws (remaining fs own c)) (capped_twice (2 ^ 22) (d * w.count)) more
        ∙ ap (capped (2 ^ 22)) (sym (mul_add d w.count (weight ws (remaining fs own c))))
    by false false e more =
        let x : 0 + weight (map (moved fs own d) ws) c ≡ weight (map (moved fs own d) ws) c = omega arith in
        let y : weight ws (remaining fs own c) ≡ 0 + weight ws (remaining fs own c) = omega arith in
        ap (capped (2 ^ 22)) x ∙ (more ∙ ap (λ n. capped (2 ^ 22) (d * n)) y)
    by true false e more = absurd (cc e)
    by false true e more = absurd (cc e)

pub weight_spread : (fs : List Factor) (n : ℕ) (l : LegValue) (c : List ℤ) (ws : List WeightValue) (ss : List ℕ) → IsGroup fs → IsCanonical fs c → All (IsRow n fs) ws → capped (2 ^ 22) (weight (spread fs l ws ss) c) ≡ capped (2 ^ 22) (total_over (λ s. (sector_at l.sectors s).dim * weight ws (remaining fs (signed fs l s) c)) ss)
weight_spread fs n l c ws [] g h a = refl
weight_spread fs n l c ws (s ∷ ss) g h a =
    let own = signed fs l s in
    let d = (sector_at l.sectors s).dim in
    ap (capped (2 ^ 22)) (weight_append (map (moved fs own d) ws) (spread fs l ws ss) c)
    ∙ capped_sum (2 ^ 22) (weight (map (moved fs own d) ws) c) (weight (spread fs l ws ss) c) (d * weight ws (remaining fs own c)) (total_over (λ k. (sector_at l.sectors k).dim * weight ws (remaining fs (signed fs l k) c)) ss)
    (weight_moved fs n d own c ws g h a) (weight_spread fs n l c ws ss g h a)

-- the counts of all tuples with one leg more
pub spread_counts : (fs : List Factor) (l : LegValue) (ls : List LegValue) (ws : List WeightValue) (c : List ℤ) → IsGroup fs → IsCanonical fs c → IsTable fs ls ws → capped (2 ^ 22) (weight (spread fs l ws (upward 0 (length l.sectors))) c) ≡ capped (2 ^ 22) (entries fs (l ∷ ls) c)
spread_counts fs l ls ws c g h t =
    weight_spread fs (1000000000 * length ls) l c ws (upward 0 (length l.sectors)) g h t.rows
    ∙ (capped_total (2 ^ 22) (λ s. (sector_at l.sectors s).dim * weight ws (remaining fs (signed fs l s) c)) (λ s. (sector_at l.sectors s).dim * entries fs ls (remaining fs (signed fs l s) c)) (upward 0 (length l.sectors))
    (λ s. capped_times (2 ^ 22) (sector_at l.sectors s).dim (weight ws (remaining fs (signed fs l s) c)) (entries fs ls (remaining fs (signed fs l s) c)) (t.weights (remaining fs (signed fs l s) c) (canonical_sum fs (neg_charge fs (signed fs l s)) c g)))
    ∙ ap (capped (2 ^ 22)) (sym (entries_step fs l ls c g h)))

-- a charge that no row has
pub no_weight : (ws : List WeightValue) (c : List ℤ) → has_charge ws c ≡ false → weight ws c ≡ 0
no_weight [] c h = refl
no_weight (w ∷ ws) c h = by (pointwise int_eq w.charge c) h (λ k. no_weight ws c k)
  where
    by : (b : Bool) → cond b true (has_charge ws c) ≡ false → (has_charge ws c ≡ false → weight ws c ≡ 0) → cond b w.count 0 + weight ws c ≡ 0
    by true e more = absurd (cc e)
    by false e more = omega (arith, more e)

-- one row of what is left
pub weight_more : (ws : List WeightValue) (c : List ℤ) (i : ℕ) (w : WeightValue) → i < length ws → w ≡ get_or ws i w → weight (drop i ws) c ≡ cond (pointwise int_eq w.charge c) w.count 0 + weight (drop (i + 1) ws) c
weight_more ws c i w lt is =
    at_drop_more (λ vs. weight vs c) ws i w lt ∙ ap (λ (v : WeightValue). cond (pointwise int_eq v.charge c) v.count 0 + weight (drop (i + 1) ws) c) (sym is)

pub has_more : (ws : List WeightValue) (c : List ℤ) (i : ℕ) (w : WeightValue) → i < length ws → w ≡ get_or ws i w → has_charge (drop i ws) c ≡ cond (pointwise int_eq w.charge c) true (has_charge (drop (i + 1) ws) c)
has_more ws c i w lt is =
    at_drop_more (λ vs. has_charge vs c) ws i w lt ∙ ap (λ (v : WeightValue). cond (pointwise int_eq v.charge c) true (has_charge (drop (i + 1) ws) c)) (sym is)

-- the counts of no legs
pub no_legs : (fs : List Factor) (c : List ℤ) → weight (record { charge = zero_charge fs; count = 1 } ∷ []) c ≡ entries fs [] c
no_legs fs c = by (pointwise int_eq (zero_charge fs) c)
  where
    by : (b : Bool) → cond b 1 0 + 0 ≡ size_of [] (cond b ([] ∷ []) [])
    by true = omega arith
    by false = refl

-- ---- rows joined

-- the rows made so far, the one that grows, and the rows to come
pub record IsJoined (rows out : List WeightValue) (last : WeightValue) (rest : List WeightValue) : Type 0 where
  pub weights : (c : List ℤ) → capped (2 ^ 22) (weight out c + weight (last ∷ rest) c) ≡ capped (2 ^ 22) (weight rows c)
  pub kept : (n : ℕ) (fs : List Factor) → All (IsRow n fs) rows → All (IsRow n fs) out × All (IsRow n fs) (last ∷ rest)

-- a row of the same charge is added to the one that grows
pub join_same : (rows out : List WeightValue) (last w more : WeightValue) (rest : List WeightValue) → w.charge ≡ last.charge → more ≡ record { charge = last.charge; count = capped (2 ^ 22) (last.count + w.count) } → IsJoined rows out last (w ∷ rest) → IsJoined rows out more rest
join_same rows out last w more rest e m h = record {
  weights = λ c. subst (λ (v : WeightValue). capped (2 ^ 22) (weight out c + weight (v ∷ rest) c) ≡ capped (2 ^ 22) (weight rows c)) (sym m) (by c (pointwise int_eq last.charge c) (ap (λ q. pointwise int_eq q c) e) (h.weights c));
  kept = λ n fs a.
      let k = h.kept n fs a in
      (k.0, subst (λ (v : WeightValue). All (IsRow n fs) (v ∷ rest)) (sym m) (All-cons (IsRow n fs) (record { charge = last.charge; count = capped (2 ^ 22) (last.count + w.count) }) rest (k.1 0 last (omega arith)) (All-tail (IsRow n fs) w rest (All-tail (IsRow n fs) last (w ∷ rest) k.1))));
}
  where
    by : (c : List ℤ) (b : Bool) → pointwise int_eq w.charge c ≡ b → capped (2 ^ 22) (weight out c + (cond b last.count 0 + (cond (pointwise int_eq w.charge c) w.count 0 + weight rest c))) ≡ capped (2 ^ 22) (weight rows c) → capped (2 ^ 22) (weight out c + (cond b (capped (2 ^ 22) (last.count + w.count)) 0 + weight rest c)) ≡ capped (2 ^ 22) (weight rows c)
    by c true t k =
        let one : cond (pointwise int_eq w.charge c) w.count 0 ≡ w.count = ap (λ x. cond x w.count 0) t in
        omega (arith, k, one)
    by c false t k =
        let one : cond (pointwise int_eq w.charge c) w.count 0 ≡ 0 = ap (λ x. cond x w.count 0) t in
        omega (arith, k, one)

-- a row of another charge begins
pub join_other : (rows out new : List WeightValue) (last w : WeightValue) (rest : List WeightValue) → new ≡ out ++ last ∷ [] → IsJoined rows out last (w ∷ rest) → IsJoined rows new w rest
join_other rows out new last w rest e h = record {
  weights = λ c. let split = ap (λ vs. weight vs c) e ∙ weight_append out (last ∷ []) c in omega (arith, split, h.weights c);
  kept = λ n fs a.
      let k = h.kept n fs a in
      (subst (All (IsRow n fs)) (sym e) (All-append (IsRow n fs) out (last ∷ []) k.0 (All-cons (IsRow n fs) last [] (k.1 0 last (omega arith)) (All-nil (IsRow n fs)))), All-tail (IsRow n fs) last (w ∷ rest) k.1);
}

-- one sector more of a leg
pub spread_more : (fs : List Factor) (l : LegValue) (ws out all : List WeightValue) (s n : ℕ) → s < n → out ++ spread fs l ws (upward s (n - s)) ≡ all → (out ++ map (moved fs (signed fs l s) (sector_at l.sectors s).dim) ws) ++ spread fs l ws (upward (s + 1) (n - (s + 1))) ≡ all
spread_more fs l ws out all s n lt e =
    let k : n - s ≡ suc (n - (s + 1)) = omega arith in
    append_assoc out (map (moved fs (signed fs l s) (sector_at l.sectors s).dim) ws) (spread fs l ws (upward (s + 1) (n - (s + 1)))) ∙ (sym (ap (λ j. out ++ spread fs l ws (upward s j)) k) ∙ e)

-- all rows after any sector of a leg more
pub rows_moved : (fs : List Factor) (m n d : ℕ) (own : List ℤ) (ws : List WeightValue) → IsGroup fs → IsWithin m fs own → All (IsRow n fs) ws → All (IsRow (m + n) fs) (map (moved fs own d) ws)
rows_moved fs m n d own ws g h a = All-map (IsRow (m + n) fs) (moved fs own d) ws (λ k w lt. let r = a k w lt in record { canonical = canonical_sum fs own (get_or ws k w).charge g; within = within_sum m n fs own (get_or ws k w).charge h r.within })

pub rows_spread : (fs : List Factor) (m n : ℕ) (l : LegValue) (ws : List WeightValue) (i k : ℕ) → IsGroup fs → ((s : ℕ) → s < i + k → IsWithin m fs (signed fs l s)) → All (IsRow n fs) ws → All (IsRow (m + n) fs) (spread fs l ws (upward i k))
rows_spread fs m n l ws i zero g h a = All-nil (IsRow (m + n) fs)
rows_spread fs m n l ws i (suc k) g h a =
    All-append (IsRow (m + n) fs) (map (moved fs (signed fs l i) (sector_at l.sectors i).dim) ws) (spread fs l ws (upward (i + 1) k))
    (rows_moved fs m n (sector_at l.sectors i).dim (signed fs l i) ws g (h i (omega arith)) a)
    (rows_spread fs m n l ws (i + 1) k g (λ s lt. h s (omega arith)) a)

-- ---- tables

-- a test that says whether two charges are the same
pub test_is : (r : Bool) (a b : List ℤ) → (r ≡ true → a ≡ b) × (a ≡ b → r ≡ true) → r ≡ pointwise int_eq a b
test_is r a b h = same_tests r (pointwise int_eq a b) (λ e. (signed_items a b).1 (h.0 e)) (λ e. h.1 ((signed_items a b).0 e))

abbrev pub row : List ℤ → ℕ → WeightValue
row q n = record { charge = q; count = n }

pub table_end : (fs : List Factor) → IsGroup fs → IsTable fs [] (row (zero_charge fs) 1 ∷ [])
table_end fs g = record {
  weights = λ c h. ap (capped (2 ^ 22)) (no_legs fs c);
  rows = All-cons (IsRow (1000000000 * 0) fs) (row (zero_charge fs) 1) [] (record { canonical = canonical_zero fs g; within = within_zero (1000000000 * 0) fs }) (All-nil (IsRow (1000000000 * 0) fs));
}

pub join_first : (rows out : List WeightValue) (w : WeightValue) (rest : List WeightValue) → rows ≡ w ∷ rest → out ≡ [] → IsJoined rows out w rest
join_first rows out w rest e o = record {
  weights = λ c.
      let all = ap (λ vs. weight vs c) e in
      let none = ap (λ vs. weight vs c) o in
      omega (arith, all, none);
  kept = λ n fs a. (subst (All (IsRow n fs)) (sym o) (All-nil (IsRow n fs)), subst (All (IsRow n fs)) e a);
}

pub joined_all : (rows out new : List WeightValue) (last : WeightValue) (rest : List WeightValue) → rest ≡ [] → new ≡ out ++ last ∷ [] → IsJoined rows out last rest → ((c : List ℤ) → capped (2 ^ 22) (weight new c) ≡ capped (2 ^ 22) (weight rows c)) × ((n : ℕ) (fs : List Factor) → All (IsRow n fs) rows → All (IsRow n fs) new)
joined_all rows out new last rest z e h = (
  λ c.
      let split = ap (λ vs. weight vs c) e ∙ weight_append out (last ∷ []) c in
      let none = ap (λ vs. weight (last ∷ vs) c) z in
      omega (arith, split, none, h.weights c),
  λ n fs a.
      let k = h.kept n fs a in
      subst (All (IsRow n fs)) (sym e) (All-append (IsRow n fs) out (last ∷ []) k.0 (All-cons (IsRow n fs) last [] (k.1 0 last (omega arith)) (All-nil (IsRow n fs)))),
)

pub rows_few : (fs : List Factor) (ls : List LegValue) (ws : List WeightValue) → length ls ≤ 63 → All (IsRow (1000000000 * length ls) fs) ws → All (IsRow 63000000000 fs) ws
rows_few fs ls ws le a = λ k d lt.
    let r = a k d lt in
    let m : 1000000000 * length ls ≤ 63000000000 = omega arith in
    record { canonical = r.canonical; within = within_more (1000000000 * length ls) 63000000000 fs (get_or ws k d).charge m r.within }

pub signed_within : (fs : List Factor) (l : LegValue) (s : ℕ) → IsLegOf fs l → s < length l.sectors → IsWithin 1000000000 fs (signed fs l s)
signed_within fs l s h lt = by l.arrow
  where
    by : (d : Dir) → IsWithin 1000000000 fs (turned fs d (sector_at l.sectors s).charge)
    by Out = (h s no_sector lt).within
    by In = within_neg 1000000000 fs (sector_at l.sectors s).charge (h s no_sector lt).within

pub table_first : (fs : List Factor) (ls : List LegValue) (l : LegValue) (ws wide sorted new : List WeightValue) → IsGroup fs → 0 < length ls → l ≡ get_or ls 0 l → IsLegOf fs l → IsTable fs (drop 1 ls) ws → wide ≡ spread fs l ws (upward 0 (length l.sectors)) → IsPermutation wide sorted → ((c : List ℤ) → capped (2 ^ 22) (weight new c) ≡ capped (2 ^ 22) (weight sorted c)) → ((n : ℕ) (gs : List Factor) → All (IsRow n gs) sorted → All (IsRow n gs) new) → IsTable fs ls new
table_first fs [] l ws wide sorted new g p is leg t e perm same kept = absurd (omega arith)
table_first fs (k ∷ ks) l ws wide sorted new g p is leg t e perm same kept = record {
  weights = λ c h.
      same c
      ∙ (ap (capped (2 ^ 22)) (weight_sorted wide sorted c perm ∙ ap (λ vs. weight vs c) e)
      ∙ (spread_counts fs l ks ws c g h t ∙ ap (λ (m : LegValue). capped (2 ^ 22) (entries fs (m ∷ ks) c)) is));
  rows =
      let b : 1000000000 + 1000000000 * length ks ≡ 1000000000 * suc (length ks) = omega arith in
      kept (1000000000 * suc (length ks)) fs (All-permutation (IsRow (1000000000 * suc (length ks)) fs) wide sorted perm (subst (All (IsRow (1000000000 * suc (length ks)) fs)) (sym e) (subst (λ n. All (IsRow n fs) (spread fs l ws (upward 0 (length l.sectors)))) b (rows_spread fs 1000000000 (1000000000 * length ks) l ws 0 (length l.sectors) g (λ s lt. signed_within fs l s leg (omega arith)) t.rows))));
}

-- the tables of the legs from i on, the last one of the most legs
pub record IsTables (fs : List Factor) (ls : List LegValue) (i : ℕ) (ts : List (List WeightValue)) : Type 0 where
  pub many : length ts ≡ length ls - i + 1
  pub tables : (k : ℕ) → i ≤ k → k ≤ length ls → IsTable fs (drop k ls) (get_or ts (length ls - k) [])

pub tables_end : (fs : List Factor) (ls : List LegValue) (ts : List (List WeightValue)) (t : List WeightValue) → ts ≡ t ∷ [] → IsTable fs [] t → IsTables fs ls (length ls) ts
tables_end fs ls ts t e h = record {
  many = ap length e ∙ omega arith;
  tables = λ k ge le.
      let n : length ls - k ≡ 0 = omega arith in
      subst (λ us. IsTable fs (drop k ls) (get_or us (length ls - k) [])) (sym e) (subst (λ j. IsTable fs (drop k ls) (get_or (t ∷ []) j [])) (sym n) (subst (λ ks. IsTable fs ks t) (sym (drop_all k ls (omega arith))) h));
}

drop-drop-legs : (ls : List LegValue) (i : ℕ) → drop 1 (drop i ls) ≡ drop (i + 1) ls
drop-drop-legs ls i = drop-drop 1 i ls

pub tables_last : (fs : List Factor) (ls : List LegValue) (i : ℕ) (ts : List (List WeightValue)) (last : ℕ) (t : List WeightValue) → 0 < i → i ≤ length ls → last ≡ length ts - 1 → t ≡ get_or ts last t → IsTables fs ls i ts → IsTable fs (drop 1 (drop (i - 1) ls)) t
tables_last fs ls i ts last t p le e is h =
    let n : last ≡ length ls - i = omega (arith, h.many) in
    let in_range : last < length ts = omega (arith, h.many) in
    let j : i - 1 + 1 ≡ i = omega arith in
    let at : t ≡ get_or ts (length ls - i) [] = is ∙ (get_or_default ts last t [] in_range ∙ ap (λ m. get_or ts m []) n) in
    let legs : drop i ls ≡ drop 1 (drop (i - 1) ls) = sym (drop-drop-legs ls (i - 1) ∙ ap (λ m. drop m ls) j) in
    subst (λ us. IsTable fs (drop 1 (drop (i - 1) ls)) us) (sym at) (subst (λ ks. IsTable fs ks (get_or ts (length ls - i) [])) legs (h.tables i (omega arith) le))

pub tables_more : (fs : List Factor) (ls : List LegValue) (i : ℕ) (ts new : List (List WeightValue)) (t : List WeightValue) → 0 < i → i ≤ length ls → new ≡ ts ++ t ∷ [] → IsTable fs (drop (i - 1) ls) t → IsTables fs ls i ts → IsTables fs ls (i - 1) new
tables_more fs ls i ts new t p le e one h = record {
  many = omega (arith, ap length e ∙ length-append ts (t ∷ []), h.many);
  tables = λ k ge low. subst (λ us. IsTable fs (drop k ls) (get_or us (length ls - k) [])) (sym e) (by k low (cases_lt k i) ge);
}
  where
    by : (k : ℕ) → k ≤ length ls → (k < i) ⊎ (i ≤ k) → i - 1 ≤ k → IsTable fs (drop k ls) (get_or (ts ++ t ∷ []) (length ls - k) [])
    by k low (inl lt) ge =
        let same : i - 1 ≡ k = omega arith in
        let n : length ls - k - length ts ≡ 0 = omega (arith, h.many) in
        let there : get_or (ts ++ t ∷ []) (length ls - k) [] ≡ t = get_or-append_right ts (t ∷ []) (length ls - k) [] (omega (arith, h.many)) ∙ ap (λ j. get_or (t ∷ []) j []) n in
        subst (λ us. IsTable fs (drop k ls) us) (sym there) (subst (λ j. IsTable fs (drop j ls) t) same one)
    by k low (inr ge) _ =
        let there : get_or (ts ++ t ∷ []) (length ls - k) [] ≡ get_or ts (length ls - k) [] = get_or_append_left ts (t ∷ []) [] (length ls - k) (omega (arith, h.many)) in
        subst (λ us. IsTable fs (drop k ls) us) (sym there) (h.tables k ge low)

-- the number of tuples with one leg more
pub count_capped : (k : ℕ) (ls : List LegValue) (i : ℕ) (l : LegValue) (size n : ℕ) → 0 < i → i - 1 < length ls → l ≡ get_or ls (i - 1) l → n ≡ length l.sectors → size ≡ capped k (count (drop i ls)) → capped k (size * n) ≡ capped k (count (drop (i - 1) ls))
count_capped k ls i l size n p lt is m e =
    let j : i - 1 + 1 ≡ i = omega arith in
    let step : count (drop (i - 1) ls) ≡ length l.sectors * count (drop i ls) = count_step ls (i - 1) l lt ∙ (ap (λ (q : LegValue). length q.sectors * count (drop (i - 1 + 1) ls)) (sym is) ∙ ap (λ (b : ℕ). length l.sectors * count (drop b ls)) j) in
    ap (capped k) (mul_comm size n) ∙ (capped_times k n size (count (drop i ls)) (ap (capped k) e ∙ capped_twice k (count (drop i ls))) ∙ ap (capped k) (ap (λ (b : ℕ). b * count (drop i ls)) m ∙ sym step))

-- the legs from i on, as a slice has them
pub rest_of : (ls : List LegValue) (i : ℕ) → take (length ls - i) (drop i ls) ≡ drop i ls
rest_of ls i = take_all (length ls - i) (drop i ls) (omega (arith, length-drop i ls))

-- the table of all legs
pub table_all : (fs : List Factor) (ls : List LegValue) (ts : List (List WeightValue)) (t : List WeightValue) → length ts ≡ length ls + 1 → ((k : ℕ) → k ≤ length ls → IsTable fs (drop k ls) (get_or ts (length ls - k) [])) → t ≡ get_or ts (length ls) t → IsTable fs ls t
table_all fs ls ts t n h is =
    let in_range : length ls < length ts = omega arith in
    let z : length ls - 0 ≡ length ls = omega arith in
    let at : get_or ts (length ls - 0) [] ≡ t = ap (λ j. get_or ts j []) z ∙ (sym (get_or_default ts (length ls) t [] in_range) ∙ sym is) in
    subst (IsTable fs ls) at (h 0 (omega arith))

-- the table of the legs after the i-th
pub table_after : (fs : List Factor) (ls later : List LegValue) (m i : ℕ) (ts : List (List WeightValue)) (t : List WeightValue) → later ≡ drop m ls → m ≡ min (length ls) 1 → i < length ls → length ts ≡ length later + 1 → ((k : ℕ) → k ≤ length later → IsTable fs (drop k later) (get_or ts (length later - k) [])) → t ≡ get_or ts (length ls - 1 - i) t → IsTable fs (drop (i + 1) ls) t
table_after fs ls later m i ts t e me lt n h is =
    let one : m ≡ 1 = omega arith in
    let long : length later ≡ length ls - 1 = omega (arith, ap length e, length-drop m ls) in
    let up : 1 + i ≡ i + 1 = omega arith in
    let legs : drop i later ≡ drop (i + 1) ls = ap (drop i) (e ∙ ap (λ j. drop j ls) one) ∙ (drop-drop i 1 ls ∙ ap (λ j. drop j ls) up) in
    let place : length later - i ≡ length ls - 1 - i = omega arith in
    let in_range : length ls - 1 - i < length ts = omega arith in
    let at : get_or ts (length later - i) [] ≡ t = ap (λ j. get_or ts j []) place ∙ (sym (get_or_default ts (length ls - 1 - i) t [] in_range) ∙ sym is) in
    subst (λ ks. IsTable fs ks t) legs (subst (IsTable fs (drop i later)) at (h i (omega arith)))
