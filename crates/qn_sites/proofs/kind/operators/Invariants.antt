use Rattle.std.proofs.Common.{◌≡◌, map, take}
use Rattle.qn_sites.specs.Kinds.{kind_op}
use Rattle.qn_sites.specs.KindRows.{op_row}
use Rattle.qn_sites.proofs.kind.operators.Given as goal

abbrev pub invariant-loop-op : goal.invariant-loop-op
invariant-loop-op g l = map (λ o. record { name = o.0; charge = o.1; entries = o.2.items }) l.list.items ≡ map (λ o. kind_op l.dim (op_row o)) (take l.op-index l.ops)
