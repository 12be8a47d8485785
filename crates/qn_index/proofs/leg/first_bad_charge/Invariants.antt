use Rattle.std.proofs.Common.{ℕ, ◌<◌, get_or}
use Rattle.qn_index.specs.Legs.{SectorValue, IsOf}
use Rattle.qn_index.specs.Refusals.{BadCharge}
use Rattle.qn_index.proofs.leg.first_bad_charge.Given as goal

abbrev pub invariant-loop-i : goal.invariant-loop-i
invariant-loop-i g l = record {
  none : (j : ℕ) → j < l.i → BadCharge l.group l.sectors j → ⊥;
  of : (k : ℕ) (d : SectorValue) → k < l.i → IsOf l.group (get_or l.sectors k d);
}
