use Rattle.std.proofs.Common.{◌≡◌, ℕ, ◌<◌, get_or}
use Rattle.qn_charge.specs.declared.factor.Factor.{Factor}
use Rattle.qn_sites.proofs.kind.has_factors.Given as goal

abbrev pub invariant-loop-i : goal.invariant-loop-i
invariant-loop-i g l = (k : ℕ) (d : Factor) → k < l.i → get_or l.group k d ≡ get_or l.factors k d
