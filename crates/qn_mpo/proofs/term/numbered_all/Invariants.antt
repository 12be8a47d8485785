use Rattle.std.proofs.Common.{◌≡◌, map, take}
use Rattle.qn_opsum.specs.Sums.{factor_of}
use Rattle.qn_mpo.proofs.term.numbered_all.Given as goal

abbrev pub invariant-loop-factor : goal.invariant-loop-factor
invariant-loop-factor g l = l.out.items ≡ map (factor_of l.sites) (take l.factor-index l.factors)
