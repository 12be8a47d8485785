use Rattle.std.proofs.Common.{◌<◌, ◌⊎◌, ℕ, IsTrue, ◌↔◌, subst₂}
use Rattle.qn_net.proofs.lines.has_equal_arrows.Goals as goal

pub returns : goal.returns
returns c =
    subst₂ (λ (x y : ℕ). IsTrue c.is_either_above_one.result ↔ ((1 < x) ⊎ (1 < y))) c.positive.ensures c.positive-2.ensures c.is_either_above_one.ensures
