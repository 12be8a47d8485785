-- The open legs of two tensors: first those of the first one, which make the rows of the result's block.
use Rattle.std.proofs.Common.{◌≡◌, ◌≤◌, ◌<◌, ◌^◌, ◌-◌, ℕ, zero, suc, ◌+◌, ◌*◌, not, List, ◌++◌, refl, sym, ◌∙◌, ap, subst, filter, length, get_or, replicate, drop, zero-add, ◌⊎◌, inl, inr, arith}
use Rattle.std.specs.List.{All, range_with_len}
use Rattle.std.proofs.lemmas.Bool.{cases_order}
use Rattle.std.proofs.lemmas.List.{get_or-append-add, get_or_past, get_or-replicate, length-append, length-replicate}
use Rattle.std.proofs.lemmas.List.Elements.{All-cons, All-filter, filter-append}
use Rattle.std.proofs.Math.ListN.{get_or-append}
use Rattle.std.proofs.Math.Nat.{mul-le-mul_right}
use Rattle.qn_sign.specs.Positions.{positions}
use Rattle.qn_value.specs.Local.{is_coupled}
use Rattle.qn_index.specs.Legs.{LegValue}
use Rattle.qn_index.specs.Tuples.{IsTuple}
use Rattle.qn_index.specs.Places.{block_size}
use Rattle.qn_strides.specs.Strides.{KeptValue, open_places, kept_axes, start_of, IsKept}
use Rattle.qn_strides.proofs.Striding.{kept_long}
use Rattle.qn_kernel.specs.Sources.{SourceValue, IsFrame, IsSource, IsPaired, couples_of}
use Rattle.qn_kernel.proofs.Starts.{row_start, col_start}
use Rattle.qn_kernel.proofs.Places.{range_append}

pub below_all : (a n : ℕ) → All (λ i. i < a + n) (range_with_len a n)
below_all a zero = λ k d l. absurd (omega arith)
below_all a (suc n) = All-cons (λ i. i < a + suc n) a (range_with_len (a + 1) n) (omega arith) (λ k d l. let r : get_or (range_with_len (a + 1) n) k d < a + 1 + n = below_all (a + 1) n k d l in omega (arith, r))

from_all : (a n : ℕ) → All (λ i. a ≤ i) (range_with_len a n)
from_all a zero = λ k d l. absurd (omega arith)
from_all a (suc n) = All-cons (λ i. a ≤ i) a (range_with_len (a + 1) n) (omega arith) (λ k d l. let r : a + 1 ≤ get_or (range_with_len (a + 1) n) k d = from_all (a + 1) n k d l in omega (arith, r))

module _ (cs : List (ℕ × ℕ)) (m n : ℕ) where
  abbrev later : List ℕ
  later = filter (λ i. not (is_coupled cs i)) (range_with_len m n)

  pub split_places : open_places cs (m + n) ≡ open_places cs m ++ filter (λ i. not (is_coupled cs i)) (range_with_len m n)
  split_places =
      ap (filter (λ i. not (is_coupled cs i))) (range_append 0 m n ∙ ap (λ k. positions m ++ range_with_len k n) (zero-add m))
      ∙ filter-append (λ i. not (is_coupled cs i)) (positions m) (range_with_len m n)

  pub first_below : (k d : ℕ) → k < length (open_places cs m) → get_or (open_places cs (m + n)) k d < m
  first_below k d l =
      let h : get_or (open_places cs m) k d < 0 + m = All-filter (λ i. not (is_coupled cs i)) (λ i. i < 0 + m) (positions m) (below_all 0 m) k d l in
      omega (arith, h, ap (λ (ps : List ℕ). get_or ps k d) split_places, get_or-append (open_places cs m) later d k l)

  pub later_from : (j d : ℕ) → j < length (filter (λ i. not (is_coupled cs i)) (range_with_len m n)) → m ≤ get_or (open_places cs (m + n)) (length (open_places cs m) + j) d
  later_from j d l =
      let h : m ≤ get_or later j d = All-filter (λ i. not (is_coupled cs i)) (λ i. m ≤ i) (range_with_len m n) (from_all m n) j d l in
      omega (arith, h, ap (λ (ps : List ℕ). get_or ps (length (open_places cs m) + j) d) split_places, get_or-append-add (open_places cs m) later j d)

  pub from_split : (k d : ℕ) → length (open_places cs m) ≤ k → k < length (open_places cs (m + n)) → m ≤ get_or (open_places cs (m + n)) k d
  from_split k d le lt =
      let long : length (open_places cs (m + n)) ≡ length (open_places cs m) + length later = ap length split_places ∙ length-append (open_places cs m) later in
      let there : length (open_places cs m) + (k - length (open_places cs m)) ≡ k = omega (arith, le) in
      subst (λ j. m ≤ get_or (open_places cs (m + n)) j d) there (later_from (k - length (open_places cs m)) d (omega (arith, le, lt, long)))

  -- as many places as are the first tensor's are below its number of legs
  pub split_is : (r : ℕ) → r ≤ length (open_places cs (m + n)) → ((k : ℕ) → k < r → get_or (open_places cs (m + n)) k 0 < m) →
      (r < length (open_places cs (m + n)) → m ≤ get_or (open_places cs (m + n)) r 0) → r ≡ length (open_places cs m)
  split_is r le below next = by (cases_order r (length (open_places cs m)))
    where
      long : length (open_places cs (m + n)) ≡ length (open_places cs m) + length later
      long = ap length split_places ∙ length-append (open_places cs m) later

      by : (r ≡ length (open_places cs m)) ⊎ ((r < length (open_places cs m)) ⊎ (length (open_places cs m) < r)) → r ≡ length (open_places cs m)
      by (inl e) = e
      by (inr (inl lt)) = absurd (omega (arith, first_below r 0 lt, next (omega (arith, lt, long))))
      by (inr (inr lt)) = absurd (omega (arith, below (length (open_places cs m)) lt, from_split (length (open_places cs m)) 0 (omega arith) (omega (arith, lt, le))))

-- in which entry of the blocks a row and a column of the result's block begin
module _ (ws : List ℕ) (rs : List LegValue) (ss ps : List ℕ) (cs : List (ℕ × ℕ)) (m n r cols : ℕ) (kept : List KeptValue) (tuple : IsTuple rs ss) (places : ps ≡ open_places cs (m + n)) (split : r ≡ length (open_places cs m))
    (kept_is : kept ≡ kept_axes ws rs ss ps) (small : All IsKept kept) (cols_are : cols ≡ block_size (drop r rs) (drop r ss)) where
  abbrev axes : List KeptValue
  axes = kept_axes ws rs ss ps

  sound : All IsKept axes
  sound = subst (All IsKept) kept_is small

  pub rows_begin : length ws ≤ m → (i j : ℕ) → j < cols → start_of kept (i * cols + j) ≡ start_of kept (i * cols)
  rows_begin long i j l =
      subst (λ k. start_of k (i * cols + j) ≡ start_of k (i * cols)) (sym kept_is)
      (subst (λ c. start_of axes (i * c + j) ≡ start_of axes (i * c)) (sym cols_are) (row_start r ws rs ss ps i j tuple sound still (omega (arith, l, cols_are))))
    where
      still : (k d : ℕ) → r ≤ k → k < length ps → get_or ws (get_or ps k d) 0 ≡ 0
      still k d le lt =
          let far : m ≤ get_or ps k d = subst (λ qs. m ≤ get_or qs k d) (sym places) (from_split cs m n k d (omega (arith, le, split)) (omega (arith, lt, ap (λ (qs : List ℕ). length qs) places))) in
          get_or_past ws (get_or ps k d) 0 (omega (arith, long, far))

  pub cols_begin : ((k : ℕ) → k < m → get_or ws k 0 ≡ 0) → (i j : ℕ) → j < cols → i * cols + j < block_size rs ss → start_of kept (i * cols + j) ≡ start_of kept j
  cols_begin rest i j l below =
      subst (λ k. start_of k (i * cols + j) ≡ start_of k j) (sym kept_is)
      (subst (λ c. start_of axes (i * c + j) ≡ start_of axes j) (sym cols_are)
      (col_start r ws rs ss ps i j tuple sound still (omega (arith, l, cols_are)) (subst (λ c. i * c + j < block_size rs ss) cols_are below)))
    where
      still : (k d : ℕ) → k < r → k < length ps → get_or ws (get_or ps k d) 0 ≡ 0
      still k d lt more = rest (get_or ps k d) (subst (λ qs. get_or qs k d < m) (sym places) (first_below cs m n k d (omega (arith, lt, split))))

-- the strides that the second tensor has at the first one's legs
pub still_before : (m : ℕ) (us : List ℕ) (k : ℕ) → k < m → get_or (replicate m 0 ++ us) k 0 ≡ 0
still_before m us k l = get_or-append {A = ℕ} (replicate m 0) us 0 k (omega (arith, l, length-replicate {A = ℕ} m 0)) ∙ get_or-replicate {A = ℕ} m k 0 0 l

-- ---- a pair of blocks is small, and begins at one entry for each row and column

module _ (ks ls : List LegValue) (shared : List (ℕ × ℕ)) (word : List LegValue) (goal places : List ℕ) (rs : List LegValue) (ss : List ℕ) (frame : IsFrame ks ls shared word goal places rs) (tuple : IsTuple rs ss) where
  places_split : places ≡ open_places (couples_of (length ks) shared) (length ks + length ls)
  places_split = frame.places_is ∙ ap (open_places (couples_of (length ks) shared)) (length-append ks ls)

  pub split_of : (r : ℕ) → r ≤ length places → ((k : ℕ) → k < r → get_or places k 0 < length ks) → (r < length places → length ks ≤ get_or places r 0) → r ≡ length (open_places (couples_of (length ks) shared) (length ks))
  split_of r le below next =
      split_is (couples_of (length ks) shared) (length ks) (length ls) r (subst (λ ps. r ≤ length ps) places_split le) (subst (λ ps. (k : ℕ) → k < r → get_or ps k 0 < length ks) places_split below)
      (subst (λ ps. r < length ps → length ks ≤ get_or ps r 0) places_split next)

  pub source_small : (ws us : List ℕ) (r : ℕ) (s : SourceValue) → r ≡ length (open_places (couples_of (length ks) shared) (length ks)) → length ws ≤ length ks →
      s.first_kept ≡ kept_axes ws rs ss places → s.second_kept ≡ kept_axes (replicate (length ks) 0 ++ us) rs ss places → All IsKept s.first_kept → All IsKept s.second_kept → length s.paired ≤ 64 → All IsPaired s.paired →
      s.cols ≡ block_size (drop r rs) (drop r ss) → s.rows * s.cols ≡ block_size rs ss → s.rows ≤ 2 ^ 22 → s.cols ≤ 2 ^ 22 → IsSource s.rows s.cols s
  source_small ws us r s split long first second first_small second_small few paired cols whole few_rows few_cols = record {
    few_first = omega (arith, ap (λ (xs : List KeptValue). length xs) first, kept_long ws rs ss places tuple frame.count, frame.few_left);
    few_second = omega (arith, ap (λ (xs : List KeptValue). length xs) second, kept_long (replicate (length ks) 0 ++ us) rs ss places tuple frame.count, frame.few_left);
    few_paired = few;
    first = first_small;
    second = second_small;
    paired = paired;
    few_rows = few_rows;
    few_cols = few_cols;
    rows_are = refl;
    cols_are = refl;
    row_start = λ i j li lj. rows_begin ws rs ss places (couples_of (length ks) shared) (length ks) (length ls) r s.cols s.first_kept tuple places_split split first first_small cols long i j lj;
    col_start =
        λ i j li lj.
        let next : suc i * s.cols ≤ s.rows * s.cols = mul-le-mul_right s.cols li in
        cols_begin (replicate (length ks) 0 ++ us) rs ss places (couples_of (length ks) shared) (length ks) (length ls) r s.cols s.second_kept tuple places_split split second second_small cols (still_before (length ks) us) i j lj (omega (arith, next, lj, whole));
  }
