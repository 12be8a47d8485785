-- An operator as a tensor with two legs: its entries off the flux are 0.
use Rattle.std.proofs.Common.{◌≡◌, ◌≢◌, ℕ, ℤ, ◌≤◌, ◌<◌, ◌^◌, List, [], ◌∷◌, arith, refl, sym, ◌∙◌, ap, subst}
use Rattle.std.specs.List.{All}
use Rattle.std.proofs.lemmas.List.Elements.{All-nil, All-cons}
use Rattle.qn_gauss.specs.Gaussian.{Gaussian, zero_g}
use Rattle.qn_charge.specs.declared.factor.Factor.{Factor}
use Rattle.qn_charge.specs.Charges.{IsGroup, sum_charge, neg_charge, zero_charge, IsCanonical, IsWithin}
use Rattle.qn_charge.specs.Laws.{commutative_charge, zero_is_neutral, canonical_neg, within_more}
use Rattle.qn_index.specs.declared.leg.Dir.{Dir}
use Rattle.qn_index.specs.declared.leg.Dir.TheVariants.{Out}
use Rattle.qn_index.specs.Legs.{LegValue, SectorValue, IsLegOf, charge_at, flipped, other_way, total}
use Rattle.qn_index.specs.Tuples.{net, turned, IsFlux}
use Rattle.qn_index.specs.Places.{IsValues, sectors_at}
use Rattle.qn_rule.specs.Rules.{IsOffFlux}
use Rattle.qn_sites.specs.Operators.{OpValue, IsOperator, carried, element, op_legs, row_of, column_of}

pub op_charges : (o : OpValue) → IsOperator o → All (IsLegOf o.group) (op_legs o.leg)
op_charges o h = All-cons (IsLegOf o.group) o.leg (flipped o.leg ∷ []) h.leg.charges (All-cons (IsLegOf o.group) (flipped o.leg) [] h.leg.charges (All-nil (IsLegOf o.group)))

pub op_flux : (o : OpValue) → IsOperator o → IsFlux o.group o.charge
op_flux o h = record { canonical = h.canonical; within = within_more 10000000 (2 ^ 50) o.group o.charge (omega arith) h.within }

-- the net charge at a row and a column is what an entry there carries
net_carried : (fs : List Factor) (d : Dir) (ps : List SectorValue) (r c : ℕ) → IsGroup fs → d ≡ Out →
    sum_charge fs (turned fs d (charge_at ps r)) (sum_charge fs (turned fs (other_way d) (charge_at ps c)) (zero_charge fs)) ≡ carried fs ps r c
net_carried fs d ps r c g e =
    subst (λ a. sum_charge fs (turned fs a (charge_at ps r)) (sum_charge fs (turned fs (other_way a) (charge_at ps c)) (zero_charge fs)) ≡ carried fs ps r c) (sym e)
    (ap (sum_charge fs (charge_at ps r)) (commutative_charge fs (neg_charge fs (charge_at ps c)) (zero_charge fs) ∙ zero_is_neutral fs (neg_charge fs (charge_at ps c)) (canonical_neg fs (charge_at ps c) g)))

pub op_conserves : (o : OpValue) → IsOperator o → (xs : List ℕ) (z : Gaussian) → IsOffFlux o.group (op_legs o.leg) o.charge xs → z ≡ element o (row_of xs) (column_of xs) → z ≡ zero_g
op_conserves o h [] z off e = absurd off.range
op_conserves o h (r ∷ []) z off e = absurd off.range.1
op_conserves o h (r ∷ c ∷ xs) z off e =
    e ∙ h.conserves r c (λ q. off.other (net_carried o.group o.leg.arrow o.leg.sectors r c h.group h.leg.out ∙ q))
