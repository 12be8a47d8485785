-- The places of a product of matrices, row by row.
use Rattle.std.proofs.Common.{◌≡◌, ◌≤◌, ◌<◌, ◌/◌, ◌%◌, ℕ, zero, suc, ◌+◌, ◌*◌, List, [], ◌∷◌, ◌++◌, refl, sym, ◌∙◌, ap, ap₂, subst, map, length, replicate, zero-add, ◌⊎◌, inl, inr, eq-or-lt_of_le, arith}
use Rattle.std.specs.List.{All, range_with_len}
use Rattle.std.proofs.lemmas.List.{map-append, ext_get_or}
use Rattle.std.proofs.lemmas.List.FromFn.{get_or-map-range_with_len, length-map-range_with_len}
use Rattle.std.proofs.lemmas.List.Sums.{sum_by-cons}
use Rattle.std.proofs.lemmas.Nat.{div-mul-add, mod-mul-add, div-add-mod'}
use Rattle.std.proofs.Math.Nat.{mul-le-mul_right, mod-lt, div-lt_iff_lt-mul}
use Rattle.qn_sign.specs.Positions.{positions}
use Rattle.qn_gauss.specs.Gaussian.{Gaussian, zero_g, add_g, limit}
use Rattle.qn_kernel.specs.Matrices.{ProductValue, IsProduct, term_at, amount_at, sum_at, amounts_at, place_amount, place_sum, place_amounts, AreSums, AreAtMost, IsFirstInRow, IsFirstPlace, steps_for}

pub range_append : (a m n : ℕ) → range_with_len a (m + n) ≡ range_with_len a m ++ range_with_len (a + m) n
range_append a zero n = ap₂ range_with_len here (zero-add n)
  where
    here : a ≡ a + 0
    here = omega arith
range_append a (suc m) n = ap (range_with_len a) split ∙ ap (λ xs. a ∷ xs) (range_append (a + 1) m n ∙ ap (λ k. range_with_len (a + 1) m ++ range_with_len k n) next)
  where
    split : suc m + n ≡ suc (m + n)
    split = omega arith

    next : a + 1 + m ≡ a + suc m
    next = omega arith

module _ (rows cols x y : ℕ) (l : y < cols) where
  pub entry_there : (xs : List ProductValue) → All (IsProduct rows cols) xs → place_sum xs (x * cols + y) ≡ sum_at xs x y
  entry_there [] h = refl
  entry_there (s ∷ ss) h =
      let e : s.second.cols ≡ cols = (h 0 s (omega arith)).cols_are in
      ap₂ add_g
      (ap (λ k. term_at ((x * cols + y) / k) ((x * cols + y) % k) s) e ∙ ap₂ (λ i j. term_at i j s) (div-mul-add x cols y l) (mod-mul-add x cols y l))
      (entry_there ss (λ k d lt. h (suc k) d (omega arith)))

  pub amount_there : (xs : List ProductValue) → All (IsProduct rows cols) xs → place_amounts xs (x * cols + y) ≡ amounts_at xs x y
  amount_there [] h = refl
  amount_there (s ∷ ss) h =
      let e : s.second.cols ≡ cols = (h 0 s (omega arith)).cols_are in
      sum_by-cons (place_amount (x * cols + y)) s ss
      ∙ ap₂ ◌+◌
      (ap (λ k. amount_at ((x * cols + y) / k) ((x * cols + y) % k) s) e ∙ ap₂ (λ i j. amount_at i j s) (div-mul-add x cols y l) (mod-mul-add x cols y l))
      (amount_there ss (λ k d lt. h (suc k) d (omega arith)))
      ∙ sym (sum_by-cons (amount_at x y) s ss)

-- one row more
pub row_appended : (xs : List ProductValue) (rows cols x : ℕ) (row out : List Gaussian) → All (IsProduct rows cols) xs → length row ≡ cols → AreSums xs cols x row → out ≡ map (place_sum xs) (positions (x * cols)) →
    out ++ row ≡ map (place_sum xs) (positions ((x + 1) * cols))
row_appended xs rows cols x row out h e sums made =
    ap₂ ◌++◌ made last
    ∙ sym (map-append (place_sum xs) (positions (x * cols)) (range_with_len (x * cols) cols))
    ∙ ap (map (place_sum xs)) (ap (λ k. positions (x * cols) ++ range_with_len k cols) (sym (zero-add (x * cols))) ∙ sym (range_append 0 (x * cols) cols) ∙ ap positions whole)
  where
    whole : x * cols + cols ≡ (x + 1) * cols
    whole = omega arith

    last : row ≡ map (place_sum xs) (range_with_len (x * cols) cols)
    last =
        ext_get_or zero_g row (map (place_sum xs) (range_with_len (x * cols) cols)) (e ∙ sym (length-map-range_with_len (place_sum xs) (x * cols) cols)) (λ y l.
        let lt : y < cols = omega (arith, l, e) in
        sums y lt ∙ sym (entry_there rows cols x y lt xs h) ∙ sym (get_or-map-range_with_len (place_sum xs) (x * cols) cols y (x * cols + y) zero_g lt refl))

-- one row more in which no place passes
pub clear_more : (xs : List ProductValue) (cols x : ℕ) → ((i : ℕ) → i < x → AreAtMost xs cols i limit) → AreAtMost xs cols x limit → (i : ℕ) → i < x + 1 → AreAtMost xs cols i limit
clear_more xs cols x h last i l = by (eq-or-lt_of_le at)
  where
    at : i ≤ x
    at = omega arith

    by : (i ≡ x) ⊎ (i < x) → AreAtMost xs cols i limit
    by (inl e) = subst (λ k. AreAtMost xs cols k limit) (sym e) last
    by (inr lt) = h i lt

pub place_below : (rows cols x y : ℕ) → x < rows → y < cols → x * cols + y < rows * cols
place_below rows cols x y h l =
    let all : suc x * cols ≤ rows * cols = mul-le-mul_right cols h in
    omega (arith, all, l)

pub some_cols : (rows cols o : ℕ) → o < rows * cols → 0 < cols
some_cols rows zero o l = absurd (omega (arith, l))
some_cols rows (suc cols) o l = omega arith

-- no place passes where none does in any row
pub clear_all : (xs : List ProductValue) (rows cols : ℕ) → All (IsProduct rows cols) xs → ((i : ℕ) → i < rows → AreAtMost xs cols i limit) → (o : ℕ) → o < rows * cols → place_amounts xs o ≤ limit
clear_all xs rows cols h clear o l =
    let some : 0 < cols = some_cols rows cols o l in
    let small : o % cols < cols = mod-lt o some in
    subst (λ k. place_amounts xs k ≤ limit) (div-add-mod' o cols)
    (subst (λ n. n ≤ limit) (sym (amount_there rows cols (o / cols) (o % cols) small xs h)) (clear (o / cols) ((div-lt_iff_lt-mul some).1 l) (o % cols) small))

-- the first place of a row that passes is the block's first one, where none does in the rows before
pub passing_at : (xs : List ProductValue) (rows cols x y : ℕ) → All (IsProduct rows cols) xs → ((i : ℕ) → i < x → AreAtMost xs cols i limit) → x < rows → IsFirstInRow xs cols x y → IsFirstPlace xs (rows * cols) (x * cols + y)
passing_at xs rows cols x y h clear lt f = record {
  inside = place_below rows cols x y lt f.here;
  above = subst (λ n. limit < n) (sym (amount_there rows cols x y f.here xs h)) f.above;
  before = before;
}
  where
    before : (j : ℕ) → j < x * cols + y → place_amounts xs j ≤ limit
    before j l =
        subst (λ k. place_amounts xs k ≤ limit) (div-add-mod' j cols)
        (subst (λ n. n ≤ limit) (sym (amount_there rows cols (j / cols) (j % cols) small xs h)) (by (eq-or-lt_of_le at)))
      where
        some : 0 < cols
        some = omega (arith, f.here)

        small : j % cols < cols
        small = mod-lt j some

        within : j < (x + 1) * cols
        within = omega (arith, f.here)

        below : j / cols < x + 1
        below = (div-lt_iff_lt-mul some).1 within

        at : j / cols ≤ x
        at = omega (arith, below)

        by : (j / cols ≡ x) ⊎ (j / cols < x) → amounts_at xs (j / cols) (j % cols) ≤ limit
        by (inl e) = subst (λ k. amounts_at xs k (j % cols) ≤ limit) (sym e) (f.before (j % cols) (omega (arith, l, div-add-mod' j cols, ap (λ k. k * cols) e)))
        by (inr less) = clear (j / cols) less (j % cols) small

-- ---- what is told of a block

pub none_summed : (n : ℕ) → replicate n zero_g ≡ map (place_sum []) (positions n)
none_summed n = go 0 n
  where
    go : (a k : ℕ) → replicate k zero_g ≡ map (place_sum []) (range_with_len a k)
    go a zero = refl
    go a (suc k) = ap (λ zs. zero_g ∷ zs) (go (a + 1) k)

-- rows so far, and one more
pub record AreRows (xs : List ProductValue) (cols start : ℕ) (x : ℕ) (out : List Gaussian) (steps : ℕ) : Type 0 where
  pub made : out ≡ map (place_sum xs) (positions (x * cols))
  pub clear : (i : ℕ) → i < x → AreAtMost xs cols i limit
  pub steps_are : steps ≤ start + x * cols * steps_for xs

pub rows_none : (xs : List ProductValue) (cols start : ℕ) (out : List Gaussian) → out ≡ [] → AreRows xs cols start 0 out start
rows_none xs cols start out e = record {
  made = e ∙ ap (λ n. map (place_sum xs) (positions n)) none;
  clear = λ i l. absurd (omega arith);
  steps_are = omega arith;
}
  where
    none : 0 ≡ 0 * cols
    none = omega arith

pub rows_more : (xs : List ProductValue) (rows cols start x steps later : ℕ) (row out new : List Gaussian) → All (IsProduct rows cols) xs → AreRows xs cols start x out steps → AreAtMost xs cols x limit → length row ≡ cols → AreSums xs cols x row →
    new ≡ out ++ row → later ≤ steps + steps_for xs * cols → AreRows xs cols start (x + 1) new later
rows_more xs rows cols start x steps later row out new h k clear e sums f l = record {
  made = f ∙ row_appended xs rows cols x row out h e sums k.made;
  clear = clear_more xs cols x k.clear clear;
  steps_are =
      let next : (x + 1) * cols * steps_for xs ≡ x * cols * steps_for xs + steps_for xs * cols = more x cols (steps_for xs) in
      omega (arith, l, k.steps_are, next);
}
  where
    more : (a b c : ℕ) → (a + 1) * b * c ≡ a * b * c + c * b
    more a b c = omega arith

-- in a row that is not the last one
pub rows_within : (xs : List ProductValue) (rows cols start x steps later : ℕ) (out : List Gaussian) → AreRows xs cols start x out steps → x < rows → later ≤ steps + steps_for xs * cols → later ≤ start + rows * cols * steps_for xs
rows_within xs rows cols start x steps later out k h l =
    let all : suc x * (cols * steps_for xs) ≤ rows * (cols * steps_for xs) = mul-le-mul_right (cols * steps_for xs) h in
    let one : suc x * (cols * steps_for xs) ≡ x * cols * steps_for xs + steps_for xs * cols = more x cols (steps_for xs) in
    let two : rows * (cols * steps_for xs) ≡ rows * cols * steps_for xs = same rows cols (steps_for xs) in
    omega (arith, k.steps_are, l, all, one, two)
  where
    more : (a b c : ℕ) → suc a * (b * c) ≡ a * b * c + c * b
    more a b c = omega arith

    same : (a b c : ℕ) → a * (b * c) ≡ a * b * c
    same a b c = omega arith
