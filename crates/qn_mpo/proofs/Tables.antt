-- Square tables and their products.
use Rattle.std.proofs.Common.{◌≡◌, ℕ, zero, suc, ◌+◌, ◌*◌, ◌/◌, ◌%◌, ◌<◌, ◌≤◌, ◌⊎◌, inl, inr, true, false, cond, ◌==◌, ◌≢◌, List, [], ◌∷◌, ◌++◌, length, get_or, sym, ◌∙◌, ap, ap₂, subst, arith}
use Rattle.std.proofs.lemmas.Bool.{cases_lt}
use Rattle.std.proofs.lemmas.Bool.Decides.{nat_tests}
use Rattle.std.proofs.Math.ListN.{get_or-append}
use Rattle.std.proofs.Math.Seq.{get_or-append_seam}
use Rattle.std.proofs.Math.Nat.{div-lt_iff_lt-mul, mod-lt, mul-le-mul_right}
use Rattle.std.proofs.lemmas.List.{length-append}
use Rattle.std.proofs.lemmas.Nat.{div-mul-add, mod-mul-add}
use Rattle.qn_gauss.specs.Gaussian.{Gaussian, add_g, limit, mag, mul_g, one_g, zero_g}
use Rattle.qn_gauss.proofs.Ring.{add_zero, zero_mul}
use Rattle.qn_gauss.proofs.Size.{mag_zero}
use Rattle.qn_value.specs.Networks.{sum_below}
use Rattle.qn_value.specs.Magnitudes.{total_below}
use Rattle.qn_mpo.specs.Sizes.{SumValue, size_with, with_product}
use Rattle.qn_opsum.specs.Strings.{identity}
use Rattle.qn_auto.specs.Building.{IsLarge}
use Rattle.qn_mpo.specs.Tables.{IsTableOf, cell, entry_size}

pub small_product : (x d : ℕ) → x < d → d ≤ 64 → x * d ≤ 4096
small_product x d h k = wide (at_most x 64 d (less x d h k)) k
  where
    less : (x d : ℕ) → x < d → d ≤ 64 → x ≤ 64
    less x d h k = omega arith

    at_most : (a b c : ℕ) → a ≤ b → a * c ≤ b * c
    at_most a b zero h = omega arith
    at_most a b (suc c) h = more a b (a * c) (b * c) (a * suc c) (b * suc c) h (at_most a b c h) (step a c) (step b c)
      where
        step : (n m : ℕ) → n * suc m ≡ n + n * m
        step n m = omega arith

        more : (a b p q r s : ℕ) → a ≤ b → p ≤ q → r ≡ a + p → s ≡ b + q → r ≤ s
        more a b p q r s h k e f = omega arith

    wide : x * d ≤ 64 * d → d ≤ 64 → x * d ≤ 4096
    wide h k = omega (arith, h, k)

-- a part of a sum is at most the sum
pub total_part : (n m : ℕ) (f : ℕ → ℕ) → n ≤ m → total_below n f ≤ total_below m f
total_part n zero f h = subst (λ k. total_below k f ≤ total_below 0 f) (sym (none n h)) (same (total_below 0 f))
  where
    none : (n : ℕ) → n ≤ 0 → n ≡ 0
    none n h = omega arith

    same : (k : ℕ) → k ≤ k
    same k = omega arith
total_part n (suc m) f h = by (cases n m h) (total_part n m f)
  where
    cases : (n m : ℕ) → n ≤ suc m → (n ≤ m) ⊎ (n ≡ suc m)
    cases n m h = grind arith

    wider : (a b c : ℕ) → a ≤ b → a ≤ b + c
    wider a b c h = omega arith

    same : (k : ℕ) → k ≤ k
    same k = omega arith

    by : (n ≤ m) ⊎ (n ≡ suc m) → (n ≤ m → total_below n f ≤ total_below m f) → total_below n f ≤ total_below m f + f m
    by (inl l) ih = wider (total_below n f) (total_below m f) (f m) (ih l)
    by (inr e) ih = subst (λ k. total_below k f ≤ total_below m f + f m) (sym e) (same (total_below m f + f m))

next : (n : ℕ) → suc n ≡ n + 1
next n = omega arith

-- one summand more
-- a product with 0 adds nothing
pub nothing_more : (s : SumValue) (a b : Gaussian) → a ≡ zero_g → s ≡ with_product s a b
nothing_more s a b e =
    let value : add_g s.value (mul_g a b) ≡ s.value = ap (λ z. add_g s.value (mul_g z b)) e ∙ (ap (add_g s.value) (zero_mul b) ∙ add_zero s.value) in
    let none : mag a ≡ 0 = ap mag e ∙ mag_zero in
    let nothing : mag a * mag b ≡ 0 = let z : 0 * mag b ≡ 0 = omega arith in ap (λ n. n * mag b) none ∙ z in
    let size : s.size + mag a * mag b ≡ s.size = omega (arith, nothing) in
    λ i. record { value = sym value i; size = sym size i }

pub value_more : (dim : ℕ) (p q : List Gaussian) (x y v : ℕ) (s m : SumValue) (a b : Gaussian) → s.value ≡ sum_below v (λ u. mul_g (cell dim p x u) (cell dim q u y)) →
    a ≡ cell dim p x v → b ≡ cell dim q v y → m ≡ with_product s a b → m.value ≡ sum_below (v + 1) (λ u. mul_g (cell dim p x u) (cell dim q u y))
value_more dim p q x y v s m a b h ea eb em =
    ap (λ (z : SumValue). z.value) em ∙ (ap₂ add_g h (ap₂ mul_g ea eb) ∙ ap (λ n. sum_below n (λ u. mul_g (cell dim p x u) (cell dim q u y))) (next v))

pub size_more : (dim : ℕ) (p q : List Gaussian) (x y v : ℕ) (s m : SumValue) (a b : Gaussian) → s.size ≡ total_below v (λ u. mag (cell dim p x u) * mag (cell dim q u y)) →
    a ≡ cell dim p x v → b ≡ cell dim q v y → m ≡ with_product s a b → m.size ≡ total_below (v + 1) (λ u. mag (cell dim p x u) * mag (cell dim q u y))
size_more dim p q x y v s m a b h ea eb em =
    ap (λ (z : SumValue). z.size) em ∙ (ap₂ ◌+◌ h (ap₂ (λ c d. mag c * mag d) ea eb) ∙ ap (λ n. total_below n (λ u. mag (cell dim p x u) * mag (cell dim q u y))) (next v))

pub entry_passes : (dim : ℕ) (p q : List Gaussian) (x y v : ℕ) (s : SumValue) (a b : Gaussian) → v < dim → s.size ≡ total_below v (λ u. mag (cell dim p x u) * mag (cell dim q u y)) →
    a ≡ cell dim p x v → b ≡ cell dim q v y → limit < size_with s a b → limit < entry_size dim p q x y
entry_passes dim p q x y v s a b lt h ea eb above =
    further limit (total_below (suc v) g) (total_below dim g) (subst (λ n. limit < n) (ap₂ ◌+◌ h (ap₂ (λ c d. mag c * mag d) ea eb)) above) (total_part (suc v) dim g (reach v dim lt))
  where
    g : ℕ → ℕ
    g u = mag (cell dim p x u) * mag (cell dim q u y)

    reach : (v n : ℕ) → v < n → suc v ≤ n
    reach v n h = omega arith

    further : (a b c : ℕ) → a < b → b ≤ c → a < c
    further a b c h k = omega arith

-- ---- places of a table, row after row

times_le : (a b c : ℕ) → a ≤ b → a * c ≤ b * c
times_le a b c h = mul-le-mul_right c h

pub place_below : (d x y : ℕ) → x < d → y < d → x * d + y < d * d
place_below d x y hx hy = further (x * d + y) (suc x * d) (d * d) (inner (x * d) d (suc x * d) y hy (more x d)) (times_le (suc x) d d (up x d hx))
  where
    more : (x d : ℕ) → suc x * d ≡ x * d + d
    more x d = omega arith

    inner : (p d q y : ℕ) → y < d → q ≡ p + d → p + y < q
    inner p d q y h e = omega arith

    up : (x d : ℕ) → x < d → suc x ≤ d
    up x d h = omega arith

    further : (a b c : ℕ) → a < b → b ≤ c → a < c
    further a b c h k = omega arith

-- steps of a product up to a place
pub ticks_within : (start d p old new : ℕ) → p < d * d → old ≤ start + p * d → new ≤ old + d → new ≤ start + d * d * d
ticks_within start d p old new lt h k = sum (p * d) (suc p * d) (d * d * d) (more p d) (times_le (suc p) (d * d) d (up p (d * d) lt)) h k
  where
    more : (p d : ℕ) → suc p * d ≡ p * d + d
    more p d = omega arith

    up : (p n : ℕ) → p < n → suc p ≤ n
    up p n h = omega arith

    sum : (a b c : ℕ) → b ≡ a + d → b ≤ c → old ≤ start + a → new ≤ old + d → new ≤ start + c
    sum a b c e l h k = omega arith

-- entries by their places are entries by row and column
pub table_from : (d : ℕ) (f : ℕ → ℕ → Gaussian) (t : List Gaussian) (place : ℕ) → length t ≡ place → d * d ≤ place → place ≤ d * d → ((k : ℕ) → k < place → get_or t k zero_g ≡ f (k / d) (k % d)) → IsTableOf d f t
table_from d f t place full ge le h = record {
  full = omega (arith, full, ge, le);
  entries = λ x y hx hy.
      let below : x * d + y < d * d = place_below d x y hx hy in
      h (x * d + y) (further (x * d + y) (d * d) place below ge) ∙ ap₂ f (div-mul-add x d y hy) (mod-mul-add x d y hy);
}
  where
    further : (a b c : ℕ) → a < b → b ≤ c → a < c
    further a b c h k = omega arith

pub none_large : (d : ℕ) (size : ℕ → ℕ → ℕ) (place : ℕ) → d * d ≤ place → ((k : ℕ) → k < place → size (k / d) (k % d) ≤ limit) → IsLarge d size → ⊥
none_large d size place ge h l =
    let below : l.row * d + l.column < d * d = place_below d l.row l.column l.in_rows l.in_columns in
    clash (size l.row l.column) (subst (λ n. n ≤ limit) (ap₂ size (div-mul-add l.row d l.column l.in_columns) (mod-mul-add l.row d l.column l.in_columns)) (h (l.row * d + l.column) (further (l.row * d + l.column) (d * d) place below ge))) l.above
  where
    further : (a b c : ℕ) → a < b → b ≤ c → a < c
    further a b c h k = omega arith

    clash : (n : ℕ) → n ≤ limit → limit < n → ⊥
    clash n h k = omega (arith, h, k)

-- one element more
pub list_more : {A : Type 0} (P : ℕ → A → Type 0) (d : A) (old new : List A) (i : ℕ) (z : A) → length old ≡ i → new ≡ old ++ (z ∷ []) → ((k : ℕ) → k < i → P k (get_or old k d)) → P i z → (k : ℕ) → k < i + 1 → P k (get_or new k d)
list_more {A = A} P d old new i z n e h p k lt = by (cases_lt k i)
  where
    last : (k i : ℕ) → k < i + 1 → i ≤ k → i ≡ k
    last k i h g = omega arith

    by : (k < i) ⊎ (i ≤ k) → P k (get_or new k d)
    by (inl less) = subst (λ zs. P k (get_or zs k d)) (sym e) (subst (P k) (sym (get_or-append old (z ∷ []) d k (subst (λ m. k < m) (sym n) less))) (h k less))
    by (inr ge) = subst (λ zs. P k (get_or zs k d)) (sym e) (subst (λ m. P m (get_or (old ++ (z ∷ [])) m d)) (last k i lt ge) (subst (P i) (sym (ap (λ m. get_or (old ++ (z ∷ [])) m d) (sym n) ∙ get_or-append_seam old z [] d)) p))

pub more_long : {A : Type 0} (old new : List A) (i : ℕ) (z : A) → length old ≡ i → new ≡ old ++ (z ∷ []) → length new ≡ i + 1
more_long old new i z n e = ap length e ∙ (length-append old (z ∷ []) ∙ ap (λ k. k + 1) n)

-- a table of a site has few entries
pub square_small : (d : ℕ) → d ≤ 64 → d * d ≤ 4096
square_small d h = wide (mul-le-mul_right d h) h
  where
    wide : d * d ≤ 64 * d → d ≤ 64 → d * d ≤ 4096
    wide a b = omega (arith, a, b)

-- so have those of all states of a link
pub places_small : (n count e : ℕ) → n ≤ count → count ≤ 2000 → e ≤ 4096 → n * e ≤ 8192000
places_small n count e h k l = wide (times_le n 2000 e (all h k)) l
  where
    all : n ≤ count → count ≤ 2000 → n ≤ 2000
    all a b = omega (arith, a, b)

    wide : n * e ≤ 2000 * e → e ≤ 4096 → n * e ≤ 8192000
    wide a b = omega (arith, a, b)

-- a state's table stands within the sums of all states
pub table_room : (n count d e t s : ℕ) → n < count → t ≡ e * e → d ≡ e → s ≡ count * (e * e) → n * (d * d) + t ≤ s
table_room n count d e t s lt et ed es =
    subst (λ k. n * (k * k) + t ≤ s) (sym ed) (sum (n * (e * e)) (suc n * (e * e)) (count * (e * e)) (e * e) (more n (e * e)) (times_le (suc n) count (e * e) (up n count lt)) et es)
  where
    more : (x d : ℕ) → suc x * d ≡ x * d + d
    more x d = omega arith

    up : (x d : ℕ) → x < d → suc x ≤ d
    up x d h = omega arith

    sum : (a b c k : ℕ) → b ≡ a + k → b ≤ c → t ≡ k → s ≡ c → a + t ≤ s
    sum a b c k p q f g = omega (arith, p, q, f, g)

-- the row and the column of a place are in range
some_rows : (d p : ℕ) → p < d * d → 0 < d
some_rows zero p h = absurd (never p h)
  where
    never : (k : ℕ) → k < 0 → ⊥
    never k h = omega arith
some_rows (suc n) p h = more n
  where
    more : (n : ℕ) → 0 < suc n
    more n = omega arith

pub in_rows : (d p : ℕ) → p < d * d → p / d < d
in_rows d p h = (div-lt_iff_lt-mul (some_rows d p h)).1 h

pub in_columns : (d p : ℕ) → p < d * d → p % d < d
in_columns d p h = mod-lt p (some_rows d p h)

-- ---- the identity

pub unit_same : (x y : ℕ) → x ≡ y → one_g ≡ identity x y
unit_same x y e = sym (ap (λ b. cond b one_g zero_g) (same x y e))
  where
    same : (x y : ℕ) → x ≡ y → (x == y) ≡ true
    same x y e = grind (arith, nat_tests)

pub unit_other : (x y : ℕ) → x ≢ y → zero_g ≡ identity x y
unit_other x y n = sym (ap (λ b. cond b one_g zero_g) (apart x y n))
  where
    apart : (x y : ℕ) → x ≢ y → (x == y) ≡ false
    apart x y n = grind (arith, nat_tests)
