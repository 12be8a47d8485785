use Rattle.std.proofs.Common.{◌≡◌, ◌≤◌, ◌-◌, ◌∷◌, [], map, pos}
use Rattle.std.specs.List.{range_with_len}
use Rattle.qn_gen.proofs.links.link_sectors.Given as goal

abbrev pub invariant-loop-charge : goal.invariant-loop-charge
invariant-loop-charge l = record {
  from : l.initial.charge ≤ l.charge;
  sectors : l.sectors.items ≡ map (λ q. record { charge = pos q ∷ []; dim = l.dim }) (range_with_len l.initial.charge (l.charge - l.initial.charge));
}
