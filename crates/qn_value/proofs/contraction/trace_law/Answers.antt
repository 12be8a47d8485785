use Rattle.std.proofs.Common.{[], ◌∷◌}
use Rattle.qn_value.proofs.Steps.{block_value, block_network, block_homogeneous}
use Rattle.qn_value.proofs.contraction.trace_law.Goals as goal

pub returns : goal.returns
returns c par pre x post couples rest opens net within = (
  block_value pre (x ∷ []) post couples rest opens net within par,
  block_network pre (x ∷ []) post couples rest opens net within par,
  (λ h. block_homogeneous pre (x ∷ []) post couples rest opens net within par (h, tt)),
)
