-- Pairs of blocks laid out as matrices.
use Rattle.std.specs.Prelude.{◌≡◌, ◌<◌, ℕ, ◌+◌, ◌*◌, true, false, List, [], ◌∷◌, slice_index_or}
use Rattle.qn_strides.specs.Strides.{start_of}
use Rattle.qn_kernel.specs.Matrices.{number_at, ProductValue, IsProduct}
use Rattle.qn_kernel.specs.Sources.{SourceValue, all_values, shared_places, stride_in}

-- the entries of the first block by the rows of the result's block and the values of the shared legs, and those of the second by these values and the columns
pub record IsProductOf (s : SourceValue) (f : ProductValue) : Type 0 where
  pub shape : IsProduct s.rows s.cols f
  pub minus_is : f.minus ≡ s.minus
  pub inner : f.first.cols ≡ all_values s.paired
  pub first : (x z : ℕ) → x < s.rows → z < all_values s.paired → number_at f.first.cells (x * f.first.cols + z) ≡ number_at s.firsts (start_of s.first_kept (x * s.cols) + slice_index_or (shared_places (stride_in false) s.paired 0) z 0)
  pub second : (z y : ℕ) → z < all_values s.paired → y < s.cols → number_at f.second.cells (z * f.second.cols + y) ≡ number_at s.seconds (slice_index_or (shared_places (stride_in true) s.paired 0) z 0 + start_of s.second_kept y)

abbrev pub AreProductsOf : List SourceValue → List ProductValue → Type 0
AreProductsOf [] [] = Unit {0}
AreProductsOf [] (f ∷ fs) = ⊥
AreProductsOf (s ∷ ss) [] = ⊥
AreProductsOf (s ∷ ss) (f ∷ fs) = IsProductOf s f × AreProductsOf ss fs
