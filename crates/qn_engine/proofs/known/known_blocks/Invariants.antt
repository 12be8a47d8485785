use Rattle.std.proofs.Common.{ℕ, ◌<◌, ◌≤◌, get_or}
use Rattle.std.specs.List.{All}
use Rattle.qn_gauss.specs.Gaussian.{mag, limit}
use Rattle.qn_value.specs.Tensors.{BlockValue}
use Rattle.qn_engine.proofs.known.known_blocks.Given as goal

abbrev pub invariant-loop-b : goal.invariant-loop-b
invariant-loop-b l = (k : ℕ) (d : BlockValue) → k < l.b-index → All (λ z. mag z ≤ limit) (get_or l.blocks k d).entries
