use Rattle.qn_value.proofs.OrderLaws.{moved_value, moved_network, moved_homogeneous}
use Rattle.qn_value.proofs.order.moved_law.Goals as goal

pub returns : goal.returns
returns c par pre x post bonds order opens net m = (
  moved_value par pre x post bonds order opens net m,
  moved_network par pre x post bonds order opens net m,
  moved_homogeneous par pre x post bonds order opens net m,
)
