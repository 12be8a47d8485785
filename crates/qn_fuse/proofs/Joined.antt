-- The values of legs that stand one after the other.
use Rattle.std.proofs.Common.{◌≡◌, ℕ, zero, suc, ◌+◌, ◌*◌, ◌/◌, ◌%◌, ◌≤◌, ◌<◌, List, [], ◌∷◌, ◌++◌, length, map, flat_map, arith, ap, ap₂, ◌∙◌, sym}
use Rattle.std.proofs.Math.Nat.{add-mul, mul_assoc}
use Rattle.std.proofs.lemmas.Nat.{div-mul-add, mod-mul-add}
use Rattle.qn_index.specs.Legs.{LegValue, sector_at, before}
use Rattle.qn_index.specs.Tuples.{upward}
use Rattle.qn_index.specs.Places.{block_size, values_at}
use Rattle.qn_index.proofs.Shapes.{below_product}
use Rattle.qn_block.specs.Combiners.{values_in}
use Rattle.qn_fuse.proofs.Flat.{map-map, map-flat, flat-map, map_upward, flat_upward, upward_shift, upward_rows}

one_times : (n : ℕ) → 1 * n ≡ n
one_times n = omega arith

pub size-append : (ks ls : List LegValue) (a x : List ℕ) → length a ≡ length ks → block_size (ks ++ ls) (a ++ x) ≡ block_size ks a * block_size ls x
size-append [] ls [] x h = sym (one_times (block_size ls x))
size-append [] ls (s ∷ a) x h = absurd (omega arith)
size-append (k ∷ ks) ls [] x h = absurd (omega arith)
size-append (k ∷ ks) ls (s ∷ a) x h =
    let d = (sector_at k.sectors s).dim in
    ap (λ n. d * n) (size-append ks ls a x (omega arith)) ∙ sym (mul_assoc d (block_size ks a) (block_size ls x))

-- a place in the block of both
row_place : (i m n j : ℕ) → j < n → 0 < m → (((i * n + j) / (m * n)) ≡ i / m) × (((i * n + j) % (m * n)) ≡ i % m * n + j)
row_place i m n j lt some =
    let q = i / m in
    let r = i % m in
    let whole : i ≡ q * m + r = omega arith in
    let below : r < m = omega arith in
    let spread : i * n ≡ q * (m * n) + r * n = ap (λ k. k * n) whole ∙ (add-mul (q * m) r n ∙ ap (λ k. k + r * n) (mul_assoc q m n)) in
    let all : i * n + j ≡ q * (m * n) + (r * n + j) = omega (arith, spread) in
    let small : r * n + j < m * n = grows r m n j below lt in
    (ap (λ k. k / (m * n)) all ∙ div-mul-add q (m * n) (r * n + j) small, ap (λ k. k % (m * n)) all ∙ mod-mul-add q (m * n) (r * n + j) small)
  where
    grows : (r m n j : ℕ) → r < m → j < n → r * n + j < m * n
    grows r zero n j h k = absurd (omega arith)
    grows zero (suc m) n j h k = omega arith
    grows (suc r) (suc m) n j h k = let e = grows r m n j (omega arith) k in omega (arith, e)

pub row_values : (ks ls : List LegValue) (a x : List ℕ) (i j : ℕ) → length a ≡ length ks → i < block_size ks a → j < block_size ls x →
    values_at (ks ++ ls) (a ++ x) (i * block_size ls x + j) ≡ values_at ks a i ++ values_at ls x j
row_values [] ls [] x i j h lt k =
    let e : i * block_size ls x + j ≡ j = none i (block_size ls x) j lt in
    ap (values_at ls x) e
  where
    none : (i n j : ℕ) → i < 1 → i * n + j ≡ j
    none zero n j h = omega arith
    none (suc i) n j h = absurd (omega arith)
row_values [] ls (s ∷ a) x i j h lt k = absurd (omega arith)
row_values (l ∷ ks) ls [] x i j h lt k = absurd (omega arith)
row_values (l ∷ ks) ls (s ∷ a) x i j h lt k =
    let n = block_size ls x in
    let m = block_size ks a in
    let b = below_product i (sector_at l.sectors s).dim m lt in
    let p = row_place i m n j k b.0 in
    ap (λ c. (before l.sectors s + (i * n + j) / c) ∷ values_at (ks ++ ls) (a ++ x) ((i * n + j) % c)) (size-append ks ls a x (omega arith))
    ∙ ap₂ (λ u v. (before l.sectors s + u) ∷ values_at (ks ++ ls) (a ++ x) v) p.0 p.1
    ∙ ap (λ ys. (before l.sectors s + i / m) ∷ ys) (row_values ks ls a x (i % m) j (omega arith) b.2 k)

-- a piece of a row
pub piece_values : (ks ls : List LegValue) (a x : List ℕ) (i start n : ℕ) → length a ≡ length ks → i < block_size ks a → start + n ≤ block_size ls x →
    map (values_at (ks ++ ls) (a ++ x)) (upward (i * block_size ls x + start) n) ≡ map (λ ys. values_at ks a i ++ ys) (map (values_at ls x) (upward start n))
piece_values ks ls a x i start n h lt fits =
    ap (map (values_at (ks ++ ls) (a ++ x))) (sym (upward_shift (i * block_size ls x) start n))
    ∙ map-map (values_at (ks ++ ls) (a ++ x)) (λ k. i * block_size ls x + k) (upward start n)
    ∙ map_upward (λ k. values_at (ks ++ ls) (a ++ x) (i * block_size ls x + k)) (λ k. values_at ks a i ++ values_at ls x k) start n (λ k l u. row_values ks ls a x i k h lt (omega arith))
    ∙ sym (map-map (λ ys. values_at ks a i ++ ys) (values_at ls x) (upward start n))

-- some whole rows
pub rows_values : (ks ls : List LegValue) (a x : List ℕ) (i n : ℕ) → length a ≡ length ks → i + n ≤ block_size ks a →
    map (values_at (ks ++ ls) (a ++ x)) (upward (i * block_size ls x) (n * block_size ls x)) ≡ flat_map (λ us. map (λ ys. us ++ ys) (values_in ls x)) (map (values_at ks a) (upward i n))
rows_values ks ls a x i n h fits =
    ap (map (values_at (ks ++ ls) (a ++ x))) (upward_rows i n (block_size ls x))
    ∙ map-flat (values_at (ks ++ ls) (a ++ x)) (λ k. upward (k * block_size ls x) (block_size ls x)) (upward i n)
    ∙ flat_upward (λ k. map (values_at (ks ++ ls) (a ++ x)) (upward (k * block_size ls x) (block_size ls x))) (λ k. map (λ ys. values_at ks a k ++ ys) (values_in ls x)) i n
    (λ k l u. ap (λ m. map (values_at (ks ++ ls) (a ++ x)) (upward m (block_size ls x))) (plain (k * block_size ls x)) ∙ piece_values ks ls a x k 0 (block_size ls x) h (omega arith) (omega arith))
    ∙ sym (flat-map (λ us. map (λ ys. us ++ ys) (values_in ls x)) (values_at ks a) (upward i n))
  where
    plain : (m : ℕ) → m ≡ m + 0
    plain m = omega arith

-- all of them
pub joined_values : (ks ls : List LegValue) (a x : List ℕ) → length a ≡ length ks → values_in (ks ++ ls) (a ++ x) ≡ flat_map (λ us. map (λ ys. us ++ ys) (values_in ls x)) (values_in ks a)
joined_values ks ls a x h =
    ap (λ n. map (values_at (ks ++ ls) (a ++ x)) (upward 0 n)) (size-append ks ls a x h)
    ∙ ap (λ m. map (values_at (ks ++ ls) (a ++ x)) (upward m (block_size ks a * block_size ls x))) (nothing (block_size ls x))
    ∙ rows_values ks ls a x 0 (block_size ks a) h (omega arith)
  where
    nothing : (n : ℕ) → 0 ≡ 0 * n
    nothing n = omega arith
