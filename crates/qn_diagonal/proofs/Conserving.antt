-- A diagonal rule conserves charge.
use Rattle.std.proofs.Common.{◌≡◌, ◌<◌, ℕ, ℤ, ◌==◌, Bool, true, false, ◌&&◌, cond, List, [], ◌∷◌, refl, sym, ◌∙◌, ap, eqb-true}
use Rattle.qn_gauss.specs.Gaussian.{zero_g, signed}
use Rattle.qn_charge.specs.declared.factor.Factor.{Factor}
use Rattle.qn_charge.specs.Charges.{IsGroup, IsCanonical, zero_charge, sum_charge, neg_charge}
use Rattle.qn_charge.specs.Laws.{commutative_charge, zero_is_neutral, neg_is_inverse, canonical_neg}
use Rattle.qn_index.specs.declared.leg.Dir.{Dir}
use Rattle.qn_index.specs.declared.leg.Dir.TheVariants.{Out, In}
use Rattle.qn_index.specs.Legs.{LegValue, IsLegOf, no_sector, sector_at, sector_of, total, other_way, flipped, parity_at}
use Rattle.qn_index.specs.Tuples.{turned, net}
use Rattle.qn_index.specs.Places.{sectors_at}
use Rattle.qn_index.proofs.Sectors.{place_of_value}
use Rattle.qn_value.specs.Labels.{is_inward}
use Rattle.qn_diagonal.specs.Diagonal.{DiagonalConservesLaw}

cancels : (fs : List Factor) (c : List ℤ) → IsGroup fs → IsCanonical fs c → (d : Dir) → sum_charge fs (turned fs d c) (sum_charge fs (turned fs (other_way d) c) (zero_charge fs)) ≡ zero_charge fs
cancels fs c g h Out =
    ap (sum_charge fs c) (commutative_charge fs (neg_charge fs c) (zero_charge fs) ∙ zero_is_neutral fs (neg_charge fs c) (canonical_neg fs c g))
    ∙ commutative_charge fs c (neg_charge fs c) ∙ neg_is_inverse fs c g
cancels fs c g h In =
    ap (sum_charge fs (neg_charge fs c)) (commutative_charge fs c (zero_charge fs) ∙ zero_is_neutral fs c h) ∙ neg_is_inverse fs c g

-- equal values of a leg and of the turned leg have the net charge zero
pub net_of_pair : (fs : List Factor) (l : LegValue) (v : ℕ) → IsGroup fs → IsLegOf fs l → v < total l.sectors →
    net fs (l ∷ flipped l ∷ []) (sectors_at (l ∷ flipped l ∷ []) (v ∷ v ∷ [])) ≡ zero_charge fs
net_of_pair fs l v g h lt =
    cancels fs (sector_at l.sectors (sector_of l.sectors v)).charge g (h (sector_of l.sectors v) no_sector (place_of_value l.sectors v lt).0).canonical l.arrow

pub diagonal_conserves_law : DiagonalConservesLaw
diagonal_conserves_law fs l weight v w g h lt off = go (v == w) refl
  where
    go : (b : Bool) → (v == w) ≡ b → cond b (signed (is_inward l.arrow && parity_at fs l.sectors v) (weight v)) zero_g ≡ zero_g
    go false e = refl
    go true e =
        absurd (off (ap (λ u. net fs (l ∷ flipped l ∷ []) (sectors_at (l ∷ flipped l ∷ []) (v ∷ u ∷ []))) (sym (eqb-true v w e)) ∙ net_of_pair fs l v g h lt))
