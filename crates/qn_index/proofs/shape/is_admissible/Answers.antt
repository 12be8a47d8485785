use Rattle.std.proofs.Common.{◌∙◌, sym}
use Rattle.qn_index.proofs.shape.is_admissible.Goals as goal

pub returns : goal.returns
returns g c = (
  λ e. record { tuple = c.is_tuple.ensures.0 c.if-not-is_tuple.false; flux = sym c.net_charge.ensures.value ∙ c.same.ensures.0 e },
  λ h. c.same.ensures.1 (c.net_charge.ensures.value ∙ h.flux),
)
