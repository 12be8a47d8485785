-- Pairs of blocks as matrices: what stands in a row and a column, and how long they are.
use Rattle.std.proofs.Common.{◌≡◌, ◌≤◌, ◌<◌, ◌^◌, ℕ, zero, suc, ◌+◌, ◌*◌, Bool, true, false, List, [], ◌∷◌, ◌++◌, refl, sym, ◌∙◌, ap, ap₂, subst, map, length, get_or, take, Option, None, Some, IsNone, IfSome, MatchOption, arith}
use Rattle.std.specs.List.{All, flat_map, range_with_len}
use Rattle.std.proofs.Math.Nat.{mul-le-mul}
use Rattle.std.proofs.lemmas.List.{get_or-map, get_or-append-add, length-append, length-map, take_all, take_more}
use Rattle.std.proofs.lemmas.List.Elements.{All-cons, All-tail, All-append}
use Rattle.std.proofs.Math.ListN.{get_or-append}
use Rattle.qn_sign.specs.Positions.{positions}
use Rattle.qn_gauss.specs.Gaussian.{Gaussian, zero_g, limit}
use Rattle.qn_block.specs.declared.step.StepFault.{StepFault}
use Rattle.qn_block.specs.declared.step.StepFault.TheVariants.{Passed, Memory}
use Rattle.qn_strides.specs.Strides.{KeptValue, start_of}
use Rattle.qn_kernel.specs.Matrices.{number_at, laid_row, laid_out, ProductValue, AreProducts, place_sum, place_amounts, steps_for, IsFirstPlace, IsFirstPassing}
use Rattle.qn_kernel.specs.Sources.{SourceValue, PairedValue, IsPaired, IsSource, AreSources, IsPassing, IsFirstAbove, shared_places, stride_in, all_values, entry_sum, size_sum, products}
use Rattle.qn_kernel.specs.Laid.{IsProductOf, AreProductsOf}
use Rattle.qn_kernel.proofs.Shared.{places_long, stride_small}
use Rattle.qn_kernel.proofs.Laid.{own, shapes_same, entry_same, size_same, steps_same}

-- ---- rows by columns

laid_long : (es : List Gaussian) (rows cols : List ℕ) → length (laid_out es rows cols) ≡ length rows * length cols
laid_long es [] cols = omega arith
laid_long es (r ∷ rs) cols =
    length-append (laid_row es cols r) (laid_out es rs cols)
    ∙ ap₂ ◌+◌ (length-map cols (λ p. number_at es (r + p))) (laid_long es rs cols)
    ∙ more (length rs) (length cols)
  where
    more : (a b : ℕ) → b + a * b ≡ suc a * b
    more a b = omega arith

laid_at : (es : List Gaussian) (rows cols : List ℕ) (x z : ℕ) → x < length rows → z < length cols → number_at (laid_out es rows cols) (x * length cols + z) ≡ number_at es (get_or rows x 0 + get_or cols z 0)
laid_at es [] cols x z l m = absurd (omega arith)
laid_at es (r ∷ rs) cols zero z l m =
    ap (number_at (laid_row es cols r ++ laid_out es rs cols)) (none (length cols) z)
    ∙ get_or-append (laid_row es cols r) (laid_out es rs cols) zero_g z (omega (arith, m, length-map cols (λ p. number_at es (r + p))))
    ∙ get_or-map (λ p. number_at es (r + p)) cols z 0 zero_g m
  where
    none : (c b : ℕ) → 0 * c + b ≡ b
    none c b = omega arith
laid_at es (r ∷ rs) cols (suc x) z l m =
    ap (number_at (laid_row es cols r ++ laid_out es rs cols)) (next (length cols) x z ∙ ap (λ n. n + (x * length cols + z)) (sym (length-map cols (λ p. number_at es (r + p)))))
    ∙ get_or-append-add (laid_row es cols r) (laid_out es rs cols) (x * length cols + z) zero_g
    ∙ laid_at es rs cols x z (omega arith) m
  where
    next : (c a b : ℕ) → suc a * c + b ≡ c + (a * c + b)
    next c a b = omega arith

-- ---- the places of the shared legs

-- one value of a shared pair leads at most so far
value_small : (v n w : ℕ) → v < n → n ≤ 2 ^ 16 → w ≤ 2 ^ 22 → v * w ≤ 2 ^ 38
value_small v n w l h k = let all : v * w ≤ 65536 * 4194304 = mul-le-mul {n₁ = v} {m₁ = w} {n₂ = 65536} {m₂ = 4194304} (omega (arith, l, h)) k in omega (arith, all)

all_flat : (P : ℕ → Type 0) (f : ℕ → List ℕ) (n : ℕ) → ((v : ℕ) → v < n → All P (f v)) → All P (flat_map f (positions n))
all_flat P f n h = go 0 n (λ v l. h v (omega (arith, l)))
  where
    go : (a k : ℕ) → ((v : ℕ) → v < a + k → All P (f v)) → All P (flat_map f (range_with_len a k))
    go a zero g = λ i d l. absurd (omega arith)
    go a (suc k) g = All-append P (f a) (flat_map f (range_with_len (a + 1) k)) (g a (omega arith)) (go (a + 1) k (λ v l. g v (omega (arith, l))))

places_small : (b : Bool) (xs : List PairedValue) (p : ℕ) → All IsPaired xs → p + length xs * 2 ^ 40 ≤ 2 ^ 60 → All (λ q. q ≤ 2 ^ 60) (shared_places (stride_in b) xs p)
places_small b [] p h l = All-cons (λ q. q ≤ 2 ^ 60) p [] (omega (arith, l)) (λ k d m. absurd (omega arith))
places_small b (x ∷ xs) p h l = all_flat (λ q. q ≤ 2 ^ 60) (λ v. shared_places (stride_in b) xs (p + v * stride_in b x)) x.len (λ v lt.
    let here : IsPaired x = h 0 x (omega arith) in
    let step : v * stride_in b x ≤ 2 ^ 38 = value_small v x.len (stride_in b x) lt here.0 (stride_small b x here) in
    places_small b xs (p + v * stride_in b x) (All-tail IsPaired x xs h) (omega (arith, l, step)))

pub shared_small : (b : Bool) (xs : List PairedValue) (ps : List ℕ) → ps ≡ shared_places (stride_in b) xs 0 → All IsPaired xs → length xs ≤ 64 → All (λ q. q ≤ 2 ^ 60) ps
shared_small b xs ps e h l = subst (All (λ q. q ≤ 2 ^ 60)) (sym e) (places_small b xs 0 h (omega (arith, l)))

-- ---- a pair of blocks as two matrices

module _ (s : SourceValue) (f : ProductValue) (rows cols firsts seconds : List ℕ) where
  -- what is told of the matrices that are made
  pub record IsMade : Type 0 where
    pub first_rows : f.first.rows ≡ length rows
    pub first_cols : f.first.cols ≡ length firsts
    pub first_cells : f.first.cells ≡ laid_out s.firsts rows firsts
    pub first_few : length f.first.cells < 2 ^ 64
    pub second_rows : f.second.rows ≡ length seconds
    pub second_cols : f.second.cols ≡ length cols
    pub second_cells : f.second.cells ≡ laid_out s.seconds seconds cols
    pub second_few : length f.second.cells < 2 ^ 64
    pub minus_is : f.minus ≡ s.minus

  module _ (h : IsMade) (long : length rows ≡ s.rows) (wide : length cols ≡ s.cols) (firsts_are : firsts ≡ shared_places (stride_in false) s.paired 0) (seconds_are : seconds ≡ shared_places (stride_in true) s.paired 0)
      (row_starts : (i : ℕ) → i < s.rows → get_or rows i 0 ≡ start_of s.first_kept (i * s.cols)) (col_starts : (i : ℕ) → i < s.cols → get_or cols i 0 ≡ start_of s.second_kept (i * 1)) where
    firsts_long : length firsts ≡ all_values s.paired
    firsts_long = ap (λ (ps : List ℕ). length ps) firsts_are ∙ places_long (stride_in false) s.paired 0

    seconds_long : length seconds ≡ all_values s.paired
    seconds_long = ap (λ (ps : List ℕ). length ps) seconds_are ∙ places_long (stride_in true) s.paired 0

    pub laid_as : IsProductOf s f
    laid_as = record {
      shape =
          record {
            first = record { full = ap (λ (es : List Gaussian). length es) h.first_cells ∙ laid_long s.firsts rows firsts ∙ sym (ap₂ ◌*◌ h.first_rows h.first_cols); few = h.first_few };
            second = record { full = ap (λ (es : List Gaussian). length es) h.second_cells ∙ laid_long s.seconds seconds cols ∙ sym (ap₂ ◌*◌ h.second_rows h.second_cols); few = h.second_few };
            rows_are = h.first_rows ∙ long;
            cols_are = h.second_cols ∙ wide;
            inner = h.second_rows ∙ seconds_long ∙ sym (h.first_cols ∙ firsts_long);
          };
      minus_is = h.minus_is;
      inner = h.first_cols ∙ firsts_long;
      first =
          λ x z lx lz.
          ap₂ (λ es n. number_at es (x * n + z)) h.first_cells h.first_cols
          ∙ laid_at s.firsts rows firsts x z (omega (arith, lx, long)) (omega (arith, lz, firsts_long))
          ∙ ap₂ (λ a b. number_at s.firsts (a + b)) (row_starts x lx) (ap (λ (ps : List ℕ). get_or ps z 0) firsts_are);
      second =
          λ z y lz ly.
          ap₂ (λ es n. number_at es (z * n + y)) h.second_cells h.second_cols
          ∙ laid_at s.seconds seconds cols z y (omega (arith, lz, seconds_long)) (omega (arith, ly, wide))
          ∙ ap₂ (λ a b. number_at s.seconds (a + b)) (ap (λ (ps : List ℕ). get_or ps z 0) seconds_are) (col_starts y ly ∙ ap (start_of s.second_kept) (one y));
    }
      where
        one : (n : ℕ) → n * 1 ≡ n
        one n = omega arith

-- where the rows begin is told of the source itself
pub starts_same : (rows items : List ℕ) (kept own : List KeptValue) (count long by wide : ℕ) → rows ≡ items → kept ≡ own → count ≡ long → by ≡ wide → ((i : ℕ) → i < count → get_or items i 0 ≡ start_of kept (i * by)) →
    (i : ℕ) → i < long → get_or rows i 0 ≡ start_of own (i * wide)
starts_same rows items kept own count long by wide e f g k h i l = ap (λ (ps : List ℕ). get_or ps i 0) e ∙ h i (omega (arith, l, g)) ∙ ap₂ (λ xs n. start_of xs (i * n)) f k

-- ---- all pairs

products_last : (ss : List SourceValue) (fs : List ProductValue) (s : SourceValue) (f : ProductValue) → AreProductsOf ss fs → IsProductOf s f → AreProductsOf (ss ++ s ∷ []) (fs ++ f ∷ [])
products_last [] [] s f h p = (p, tt)
products_last [] (g ∷ fs) s f h p = absurd h
products_last (t ∷ ss) [] s f h p = absurd h
products_last (t ∷ ss) (g ∷ fs) s f h p = (h.0, products_last ss fs s f h.1 p)

pub products_more : (ss : List SourceValue) (i : ℕ) (s : SourceValue) (fs : List ProductValue) (f : ProductValue) → i < length ss → s ≡ get_or ss i s → AreProductsOf (take i ss) fs → IsProductOf s f → AreProductsOf (take (i + 1) ss) (fs ++ f ∷ [])
products_more ss i s fs f l e h p =
    subst (λ xs. AreProductsOf xs (fs ++ f ∷ [])) (ap (λ t. take i ss ++ t ∷ []) e ∙ sym (take_more ss i s l)) (products_last (take i ss) fs s f h p)

pub products_all : (ss : List SourceValue) (i : ℕ) (fs : List ProductValue) → i ≡ length ss → AreProductsOf (take i ss) fs → AreProductsOf ss fs
products_all ss i fs e h = subst (λ xs. AreProductsOf xs fs) (take_all i ss (omega (arith, e))) h

-- each pair in its own shape
pub source_at : (len : ℕ) (ss : List SourceValue) (i : ℕ) (s : SourceValue) → AreSources len ss → len ≤ 2 ^ 22 → i < length ss → s ≡ get_or ss i s → IsSource s.rows s.cols s × (s.rows * s.cols ≤ 2 ^ 22)
source_at len ss i s h few l e =
    let here : IsSource h.rows h.cols s = subst (IsSource h.rows h.cols) (sym e) (h.all i s l) in
    (own h.rows h.cols s here, omega (arith, few, h.len_is, ap₂ ◌*◌ here.rows_are here.cols_are))

pub products_are : (len : ℕ) (ss : List SourceValue) (fs : List ProductValue) → AreSources len ss → AreProductsOf ss fs → AreProducts fs len
products_are len ss fs h p = record { rows = h.rows; cols = h.cols; shape = shapes_same h.rows h.cols ss fs h.all p; len_is = h.len_is }

-- ---- what is told of the matrices holds of the pairs

module _ (len : ℕ) (ss : List SourceValue) (fs : List ProductValue) (h : AreSources len ss) (p : AreProductsOf ss fs) where
  size_at_place : (o : ℕ) → o < len → place_amounts fs o ≡ size_sum ss o
  size_at_place o l = size_same h.rows h.cols ss fs o h.all p (omega (arith, l, h.len_is))

  pub entries_same : (es : List Gaussian) → es ≡ map (place_sum fs) (positions len) → es ≡ map (entry_sum ss) (positions len)
  entries_same es e = e ∙ go 0 len (λ o l. entry_same h.rows h.cols ss fs o h.all p (omega (arith, l, h.len_is)))
    where
      go : (a k : ℕ) → ((o : ℕ) → o < a + k → place_sum fs o ≡ entry_sum ss o) → map (place_sum fs) (range_with_len a k) ≡ map (entry_sum ss) (range_with_len a k)
      go a zero g = refl
      go a (suc k) g = ap₂ (λ x xs. x ∷ xs) (g a (omega arith)) (go (a + 1) k (λ o l. g o (omega (arith, l))))

  pub clear_same : ((o : ℕ) → o < len → place_amounts fs o ≤ limit) → (o : ℕ) → o < len → size_sum ss o ≤ limit
  clear_same g o l = subst (λ n. n ≤ limit) (size_at_place o l) (g o l)

  first_same : (o : ℕ) → IsFirstPlace fs len o → IsFirstAbove ss len o
  first_same o g = record {
    inside = g.inside;
    above = subst (λ n. limit < n) (size_at_place o g.inside) g.above;
    before = λ j l. subst (λ n. n ≤ limit) (size_at_place j (omega (arith, l, g.inside))) (g.before j l);
  }

  pub told_same : (r : Option ℕ) → (IsNone r → (o : ℕ) → o < len → place_amounts fs o ≤ limit) → IfSome r (IsFirstPlace fs len) → MatchOption r ((o : ℕ) → o < len → size_sum ss o ≤ limit) (IsFirstAbove ss len)
  told_same None f g = clear_same (f refl)
  told_same (Some o) f g = first_same o g

  pub passing_same : (t : List ℕ) (e : StepFault) → IsFirstPassing fs t len e → IsPassing ss t len e
  passing_same t (Passed at o) g = (
    g.0,
    (first_same o g.1).inside,
    (first_same o g.1).above,
    (first_same o g.1).before,
  )
  passing_same t Memory g = tt

  pub steps_within : (start now : ℕ) → now ≤ start + len * steps_for fs → now ≤ start + len * products ss
  steps_within start now l = subst (λ n. now ≤ start + len * n) (steps_same ss fs p) l
