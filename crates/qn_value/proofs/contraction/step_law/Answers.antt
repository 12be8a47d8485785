use Rattle.qn_value.proofs.Steps.{step_value, step_network, step_homogeneous}
use Rattle.qn_value.proofs.contraction.step_law.Goals as goal

pub returns : goal.returns
returns c par pre x between y post bonds shared rest opens net split within hb hy = (
  step_value par pre x between y post bonds shared rest opens net split within hb hy,
  step_network par pre x between y post bonds shared rest opens net split within,
  (λ hx. step_homogeneous par pre x between y post bonds shared rest opens net split within hx hy),
)
