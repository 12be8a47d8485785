-- The sector of a leg at a place.
use Rattle.std.proofs.Common.{◌≡◌, ◌<◌, ℕ, zero, suc, List, [], ◌∷◌, ◌++◌, refl, sym, ◌∙◌, ap, subst, map, length, get_or, take, drop, arith}
use Rattle.qn_sign.specs.Sign.{xor}
use Rattle.qn_charge.specs.declared.factor.Factor.{Factor}
use Rattle.qn_charge.specs.Charges.{parity}
use Rattle.qn_index.specs.Legs.{LegValue, sector_at}
use Rattle.qn_index.specs.Tuples.{IsTuple}
use Rattle.qn_index.proofs.Nets.{tuple_length, tuple_at}
use Rattle.qn_value.specs.Local.{no_leg}
use Rattle.qn_twist.specs.Twisted.{leg_at, odd_sectors}

-- the sector of the leg at a place
pub record IsAt (ls : List LegValue) (t : List ℕ) (k : ℕ) (l : LegValue) : Type 0 where
  pub within : k < length t
  pub sector : get_or t k 0 < length l.sectors
  pub leg : l ≡ leg_at ls k

pub at : (ls : List LegValue) (t : List ℕ) (k : ℕ) (l : LegValue) → IsTuple ls t → k < length ls → l ≡ get_or ls k l → IsAt ls t k l
at ls t k l h lt is =
    let n = tuple_length ls t h in
    record {
      within = omega (arith, n, lt);
      sector = subst (λ (g : LegValue). get_or t k 0 < length g.sectors) (sym is) (tuple_at ls t k l h lt);
      leg = is ∙ same l no_leg ls k lt;
    }
  where
    same : {A : Type 0} (d e : A) (xs : List A) (k : ℕ) → k < length xs → get_or xs k d ≡ get_or xs k e
    same d e [] k lt = absurd (omega (arith, lt))
    same d e (x ∷ xs) zero lt = refl
    same d e (x ∷ xs) (suc k) lt = same d e xs k (omega (arith, lt))
