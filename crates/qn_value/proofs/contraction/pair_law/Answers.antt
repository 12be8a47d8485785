use Rattle.std.proofs.Common.{[], ◌∷◌}
use Rattle.qn_value.proofs.Steps.{block_value, block_network, block_homogeneous}
use Rattle.qn_value.proofs.contraction.pair_law.Goals as goal

pub returns : goal.returns
returns c par pre x y post shared rest opens net within = (
  block_value pre (x ∷ y ∷ []) post shared rest opens net within par,
  block_network pre (x ∷ y ∷ []) post shared rest opens net within par,
  (λ h k. block_homogeneous pre (x ∷ y ∷ []) post shared rest opens net within par (h, (k, tt))),
)
