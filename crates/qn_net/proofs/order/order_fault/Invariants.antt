use Rattle.std.proofs.Common.{◌<◌, ℕ, take}
use Rattle.qn_net.specs.Refusals.{BadPlaceAt}
use Rattle.qn_net.specs.Seen.{IsSeen}
use Rattle.qn_net.proofs.order.order_fault.Given as goal

abbrev pub invariant-loop-i : goal.invariant-loop-i
invariant-loop-i l = record {
  good : (k : ℕ) → k < l.i → BadPlaceAt l.table l.order k → ⊥;
  seen : IsSeen (take l.i l.order) l.seen.items;
}
