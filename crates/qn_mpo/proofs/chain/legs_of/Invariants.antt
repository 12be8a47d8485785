use Rattle.std.proofs.Common.{◌≡◌, map, take}
use Rattle.qn_mpo.proofs.chain.legs_of.Given as goal

abbrev pub invariant-loop-site : goal.invariant-loop-site
invariant-loop-site g l = l.legs.items ≡ map (λ s. s.leg) (take l.site-index l.sites)
