-- The sums of products of pairs of blocks are those of their matrices.
use Rattle.std.proofs.Common.{◌≡◌, ◌<◌, ◌/◌, ◌%◌, ℕ, zero, suc, ◌+◌, ◌*◌, true, false, List, [], ◌∷◌, refl, sym, ◌∙◌, ap, ap₂, subst, get_or, arith}
use Rattle.std.specs.List.{All}
use Rattle.std.proofs.lemmas.List.Elements.{All-tail}
use Rattle.std.proofs.lemmas.List.Sums.{sum_by-cons}
use Rattle.std.proofs.lemmas.Nat.{div-add-mod'}
use Rattle.std.proofs.Math.Nat.{mod-lt, div-lt_iff_lt-mul}
use Rattle.qn_gauss.specs.Gaussian.{add_g, mul_g, mag, signed}
use Rattle.qn_value.specs.Networks.{sum_below}
use Rattle.qn_value.specs.Magnitudes.{total_below}
use Rattle.qn_value.proofs.BlockSums.{sum_below-congr}
use Rattle.qn_value.proofs.NumberingLemmas.{total_below-congr}
use Rattle.qn_strides.specs.Strides.{start_of}
use Rattle.qn_kernel.specs.Matrices.{number_at, ProductValue, product_at as cell_product, size_at as cell_size, term_at, amount_at, sum_at, amounts_at, place_sum, place_amounts, steps_for, IsProduct}
use Rattle.qn_kernel.specs.Sources.{SourceValue, IsSource, all_values, shared_places, stride_in, product_at, size_at, source_term, source_size, entry_sum, size_sum, products}
use Rattle.qn_kernel.specs.Laid.{IsProductOf, AreProductsOf}
use Rattle.qn_kernel.proofs.Shared.{sum_both_below, total_both_below}
use Rattle.qn_kernel.proofs.Places.{amount_there, entry_there, some_cols}

module _ (s : SourceValue) (f : ProductValue) (x y : ℕ) (p : IsProductOf s f) (h : IsSource s.rows s.cols s) (lx : x < s.rows) (ly : y < s.cols) where
  first_at : (z : ℕ) → z < all_values s.paired → number_at s.firsts (start_of s.first_kept (x * s.cols + y) + get_or (shared_places (stride_in false) s.paired 0) z 0) ≡ number_at f.first.cells (x * f.first.cols + z)
  first_at z l = ap (λ k. number_at s.firsts (k + get_or (shared_places (stride_in false) s.paired 0) z 0)) (h.row_start x y lx ly) ∙ sym (p.first x z lx l)

  second_at : (z : ℕ) → z < all_values s.paired → number_at s.seconds (start_of s.second_kept (x * s.cols + y) + get_or (shared_places (stride_in true) s.paired 0) z 0) ≡ number_at f.second.cells (z * f.second.cols + y)
  second_at z l = ap (number_at s.seconds) (turned (start_of s.second_kept (x * s.cols + y)) (start_of s.second_kept y) (get_or (shared_places (stride_in true) s.paired 0) z 0) (h.col_start x y lx ly)) ∙ sym (p.second z y l ly)
    where
      turned : (a b c : ℕ) → a ≡ b → a + c ≡ c + b
      turned a b c e = omega (arith, e)

  term_same : source_term (x * s.cols + y) s ≡ term_at x y f
  term_same =
      ap (signed s.minus) (
      sum_both_below (product_at s.firsts s.seconds) s.paired (start_of s.first_kept (x * s.cols + y)) (start_of s.second_kept (x * s.cols + y))
      ∙ sum_below-congr (all_values s.paired) (λ z. product_at s.firsts s.seconds (start_of s.first_kept (x * s.cols + y) + get_or (shared_places (stride_in false) s.paired 0) z 0) (start_of s.second_kept (x * s.cols + y) + get_or (shared_places (stride_in true) s.paired 0) z 0))
      (cell_product f.first.cells f.second.cells f.first.cols f.second.cols x y) (λ z l. ap₂ mul_g (first_at z l) (second_at z l))
      ∙ ap (λ n. sum_below n (cell_product f.first.cells f.second.cells f.first.cols f.second.cols x y)) (sym p.inner))
      ∙ ap (λ b. signed b (sum_below f.first.cols (cell_product f.first.cells f.second.cells f.first.cols f.second.cols x y))) (sym p.minus_is)

  amount_same : source_size (x * s.cols + y) s ≡ amount_at x y f
  amount_same =
      total_both_below (size_at s.firsts s.seconds) s.paired (start_of s.first_kept (x * s.cols + y)) (start_of s.second_kept (x * s.cols + y))
      ∙ total_below-congr (all_values s.paired) (λ z. size_at s.firsts s.seconds (start_of s.first_kept (x * s.cols + y) + get_or (shared_places (stride_in false) s.paired 0) z 0) (start_of s.second_kept (x * s.cols + y) + get_or (shared_places (stride_in true) s.paired 0) z 0))
      (cell_size f.first.cells f.second.cells f.first.cols f.second.cols x y) (λ z l. ap₂ (λ a b. mag a * mag b) (first_at z l) (second_at z l))
      ∙ ap (λ n. total_below n (cell_size f.first.cells f.second.cells f.first.cols f.second.cols x y)) (sym p.inner)

-- in the shape of all pairs
pub own : (rows cols : ℕ) (s : SourceValue) → IsSource rows cols s → IsSource s.rows s.cols s
own rows cols s h = subst (λ n. IsSource n s.cols s) (sym h.rows_are) (subst (λ n. IsSource rows n s) (sym h.cols_are) h)

module _ (rows cols x y : ℕ) (lx : x < rows) (ly : y < cols) where
  sums_same : (ss : List SourceValue) (fs : List ProductValue) → All (IsSource rows cols) ss → AreProductsOf ss fs → entry_sum ss (x * cols + y) ≡ sum_at fs x y
  sums_same [] [] h p = refl
  sums_same [] (f ∷ fs) h p = absurd p
  sums_same (s ∷ ss) [] h p = absurd p
  sums_same (s ∷ ss) (f ∷ fs) h p =
      let here : IsSource rows cols s = h 0 s (omega arith) in
      ap₂ add_g
      (ap (λ n. source_term (x * n + y) s) (sym here.cols_are) ∙ term_same s f x y p.0 (own rows cols s here) (omega (arith, lx, here.rows_are)) (omega (arith, ly, here.cols_are)))
      (sums_same ss fs (All-tail (IsSource rows cols) s ss h) p.1)

  amounts_same : (ss : List SourceValue) (fs : List ProductValue) → All (IsSource rows cols) ss → AreProductsOf ss fs → size_sum ss (x * cols + y) ≡ amounts_at fs x y
  amounts_same [] [] h p = refl
  amounts_same [] (f ∷ fs) h p = absurd p
  amounts_same (s ∷ ss) [] h p = absurd p
  amounts_same (s ∷ ss) (f ∷ fs) h p =
      let here : IsSource rows cols s = h 0 s (omega arith) in
      sum_by-cons (source_size (x * cols + y)) s ss
      ∙ ap₂ ◌+◌
      (ap (λ n. source_size (x * n + y) s) (sym here.cols_are) ∙ amount_same s f x y p.0 (own rows cols s here) (omega (arith, lx, here.rows_are)) (omega (arith, ly, here.cols_are)))
      (amounts_same ss fs (All-tail (IsSource rows cols) s ss h) p.1)
      ∙ sym (sum_by-cons (amount_at x y) f fs)

pub steps_same : (ss : List SourceValue) (fs : List ProductValue) → AreProductsOf ss fs → steps_for fs ≡ products ss
steps_same [] [] p = refl
steps_same [] (f ∷ fs) p = absurd p
steps_same (s ∷ ss) [] p = absurd p
steps_same (s ∷ ss) (f ∷ fs) p =
    sum_by-cons (λ (g : ProductValue). g.first.cols) f fs ∙ ap₂ ◌+◌ p.0.inner (steps_same ss fs p.1) ∙ sym (sum_by-cons (λ (t : SourceValue). all_values t.paired) s ss)

pub shapes_same : (rows cols : ℕ) (ss : List SourceValue) (fs : List ProductValue) → All (IsSource rows cols) ss → AreProductsOf ss fs → All (IsProduct rows cols) fs
shapes_same rows cols [] [] h p = λ k d l. absurd (omega arith)
shapes_same rows cols [] (f ∷ fs) h p = absurd p
shapes_same rows cols (s ∷ ss) [] h p = absurd p
shapes_same rows cols (s ∷ ss) (f ∷ fs) h p = go (shapes_same rows cols ss fs (All-tail (IsSource rows cols) s ss h) p.1)
  where
    here : IsSource rows cols s
    here = h 0 s (omega arith)

    first : IsProduct rows cols f
    first = subst (λ n. IsProduct n cols f) here.rows_are (subst (λ n. IsProduct s.rows n f) here.cols_are p.0.shape)

    go : All (IsProduct rows cols) fs → All (IsProduct rows cols) (f ∷ fs)
    go ih zero d l = first
    go ih (suc k) d l = ih k d (omega arith)

-- at each place
pub entry_same : (rows cols : ℕ) (ss : List SourceValue) (fs : List ProductValue) (n : ℕ) → All (IsSource rows cols) ss → AreProductsOf ss fs → n < rows * cols → place_sum fs n ≡ entry_sum ss n
entry_same rows cols ss fs n h p l =
    let some : 0 < cols = some_cols rows cols n l in
    let lx : n / cols < rows = (div-lt_iff_lt-mul some).1 l in
    let ly : n % cols < cols = mod-lt n some in
    subst (λ k. place_sum fs k ≡ entry_sum ss k) (div-add-mod' n cols)
    (entry_there rows cols (n / cols) (n % cols) ly fs (shapes_same rows cols ss fs h p) ∙ sym (sums_same rows cols (n / cols) (n % cols) lx ly ss fs h p))

pub size_same : (rows cols : ℕ) (ss : List SourceValue) (fs : List ProductValue) (n : ℕ) → All (IsSource rows cols) ss → AreProductsOf ss fs → n < rows * cols → place_amounts fs n ≡ size_sum ss n
size_same rows cols ss fs n h p l =
    let some : 0 < cols = some_cols rows cols n l in
    let lx : n / cols < rows = (div-lt_iff_lt-mul some).1 l in
    let ly : n % cols < cols = mod-lt n some in
    subst (λ k. place_amounts fs k ≡ size_sum ss k) (div-add-mod' n cols)
    (amount_there rows cols (n / cols) (n % cols) ly fs (shapes_same rows cols ss fs h p) ∙ sym (amounts_same rows cols (n / cols) (n % cols) lx ly ss fs h p))
