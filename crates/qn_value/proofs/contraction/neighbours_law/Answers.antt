use Rattle.qn_value.proofs.Steps.{any_block_value, any_block_network, contract_homogeneous, mid_distinct}
use Rattle.qn_value.proofs.contraction.neighbours_law.Goals as goal

pub returns : goal.returns
returns c par pre mid post shared rest order opens net whole = (
  any_block_value pre mid post shared rest order opens net whole par,
  any_block_network pre mid post shared rest order opens net whole par,
  contract_homogeneous par mid shared order (mid_distinct pre mid post shared rest order opens net whole) whole,
)
