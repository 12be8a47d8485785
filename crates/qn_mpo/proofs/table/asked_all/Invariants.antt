use Rattle.std.proofs.Common.{◌≡◌, ◌<◌, ℕ, [], length, get_or}
use Rattle.qn_index.specs.Legs.{total}
use Rattle.qn_sites.specs.Operators.{element}
use Rattle.qn_opsum.specs.Sums.{op_at}
use Rattle.qn_mpo.specs.Tables.{IsTableOf}
use Rattle.qn_mpo.proofs.table.asked_all.Given as goal

abbrev pub invariant-loop-i : goal.invariant-loop-i
invariant-loop-i g l = record {
  count : length l.tables.items ≡ l.i;
  tables : (o : ℕ) → o < l.i → IsTableOf (total l.site.leg.sectors) (element (op_at l.site.ops o)) (get_or l.tables.items o []);
}
