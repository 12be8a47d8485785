use Rattle.std.proofs.Common.{◌≡◌, map, take}
use Rattle.qn_sites.proofs.kind.sectors.Given as goal

abbrev pub invariant-loop-charge : goal.invariant-loop-charge
invariant-loop-charge g l = l.list.items ≡ map (λ c. record { charge = c.now; dim = 1 }) (take l.charge-index l.charges)
