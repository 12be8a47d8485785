-- A rule of one leg is a rule.
use Rattle.std.proofs.Common.{◌≡◌, ℕ, List, [], ◌∷◌, ◌^◌, ◌∙◌}
use Rattle.std.specs.List.{All}
use Rattle.qn_gauss.specs.Gaussian.{Gaussian, zero_g}
use Rattle.qn_charge.specs.declared.factor.Factor.{Factor}
use Rattle.qn_charge.specs.Charges.{IsGroup, zero_charge}
use Rattle.qn_charge.specs.Laws.{canonical_zero, within_zero}
use Rattle.qn_index.specs.Legs.{IsLegOf, flipped}
use Rattle.qn_index.specs.Tuples.{IsFlux}
use Rattle.qn_rule.specs.Rules.{IsOffFlux}
use Rattle.qn_value.proofs.BlockRows.{all-nil, all-cons}
use Rattle.qn_diagonal.proofs.Conserving.{diagonal_conserves_law}
use Rattle.qn_lazy.specs.LegRules.{LegRuleValue, legs_of, weight_of, entry_of_rule}

pub both_charges : (r : LegRuleValue) → IsLegOf r.group r.leg → All (IsLegOf r.group) (legs_of r.leg)
both_charges r h = all-cons (IsLegOf r.group) r.leg (flipped r.leg ∷ []) h (all-cons (IsLegOf r.group) (flipped r.leg) [] h (all-nil (IsLegOf r.group)))

pub zero_flux : (fs : List Factor) → IsGroup fs → IsFlux fs (zero_charge fs)
zero_flux fs g = record { canonical = canonical_zero fs g; within = within_zero (2 ^ 50) fs }

pub conserves : (r : LegRuleValue) → IsGroup r.group → IsLegOf r.group r.leg → (xs : List ℕ) (z : Gaussian) → IsOffFlux r.group (legs_of r.leg) (zero_charge r.group) xs → z ≡ entry_of_rule r xs → z ≡ zero_g
conserves r g h [] z off e = absurd off.range
conserves r g h (v ∷ []) z off e = absurd off.range.1
conserves r g h (v ∷ w ∷ xs) z off e = e ∙ diagonal_conserves_law r.group r.leg (weight_of r.leg r.part) v w g h off.range.0 off.other
