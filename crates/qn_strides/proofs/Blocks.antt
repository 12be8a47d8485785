-- Blocks of a tensor: their tuples, all of them different.
use Rattle.std.proofs.Common.{◌≡◌, List, [], ◌∷◌, refl, ap₂}
use Rattle.qn_gauss.specs.Gaussian.{Gaussian, add_g}
use Rattle.qn_index.specs.Legs.{LegValue}
use Rattle.qn_index.specs.Tuples.{IsTuple}
use Rattle.qn_value.specs.Tensors.{BlockValue}
use Rattle.qn_value.specs.Blocks.{HaveTuples}
use Rattle.qn_value.specs.Rows.{sum_over}
pub use Rattle.qn_value.proofs.TensorBlocks.{tuples_there as have_tuples}
pub use Rattle.qn_value.proofs.TensorBlocks.{blocks_distinct as distinct_blocks}

-- the sum over blocks whose tuples are those of legs
pub over_tuples : (ls : List LegValue) (bs : List BlockValue) (f g : BlockValue → Gaussian) → HaveTuples ls bs → ((b : BlockValue) → IsTuple ls b.tuple → f b ≡ g b) → sum_over bs f ≡ sum_over bs g
over_tuples ls [] f g h e = refl
over_tuples ls (b ∷ bs) f g h e = ap₂ add_g (e b h.0) (over_tuples ls bs f g h.1 e)
