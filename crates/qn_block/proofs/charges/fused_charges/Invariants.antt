use Rattle.std.proofs.Common.{◌≡◌, ◌≤◌, length, map, drop}
use Rattle.std.specs.List.{All}
use Rattle.qn_index.specs.Tuples.{IsFlux, tuples}
use Rattle.qn_block.specs.Combiners.{fused_charge, ascending_once}
use Rattle.qn_block.proofs.charges.fused_charges.Given as goal

abbrev pub invariant-loop-n : goal.invariant-loop-n
invariant-loop-n g l = record {
  long : length l.tuple.items ≡ length l.legs;
  few : length l.charges.items ≤ 64;
  charges : l.charges.items ≡ ascending_once (map (fused_charge l.group l.legs l.dir) (drop l.n (tuples l.legs)));
  fluxes : All (IsFlux l.group) l.charges.items;
}
