use Rattle.std.proofs.Common.{◌≡◌, drop}
use Rattle.qn_index.specs.Weights.{has_charge}
use Rattle.qn_index.proofs.table.Table.has.Given as goal

abbrev pub invariant-loop-w : goal.invariant-loop-w
invariant-loop-w g l = has_charge l.rows l.charge ≡ has_charge (drop l.w-index l.rows) l.charge
