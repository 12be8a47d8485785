-- The limits of a leg, as a test and as facts.
use Rattle.std.proofs.Common.{◌≡◌, ℕ, ◌≤◌, ◌^◌, ℤ, pos, List, [], ◌∷◌, length, Bool, true, false, ◌&&◌, refl, sym, subst, T, true≢false}
use Rattle.std.specs.Prelude.{int_le, int_lt, nat_lt, nat_le, unsigned_abs}
use Rattle.std.specs.Bool.{Decides}
use Rattle.std.specs.List.{All, list_all}
use Rattle.std.specs.Int.Signed.{◌≤ℤ◌, ◌<ℤ◌, lt_z_yes, le_z_yes}
use Rattle.std.proofs.lemmas.Bool.{le-leb, leb-true}
use Rattle.std.proofs.lemmas.Bool.Decides.{Decides-ltb}
use Rattle.std.proofs.lemmas.List.Elements.{All-nil, All-cons, All-head, All-tail}
use Rattle.qn_charge.specs.declared.factor.Factor.{Factor}
use Rattle.qn_charge.specs.declared.factor.Factor.TheVariants.{U1, Zn}
use Rattle.qn_charge.specs.Charges.{IsCanonicalPart, IsPartWithin, IsCanonical, IsWithin}
use Rattle.qn_index.specs.Legs.{SectorValue, HasDim, IsOf, IsLeg, total}
use Rattle.qn_block.specs.Combiners.{CombinerValue, IsFusable, fused_sectors}
use Rattle.qn_doc.specs.Combiners.{is_part_in, is_charge_in, is_sector_in, are_leg_sectors, has_fused_leg}

both : {P Q : Type 0} (a b : Bool) → Decides a P → Decides b Q → Decides (a && b) (P × Q)
both true b p q = (λ e. (p.0 refl, q.0 e), λ h. q.1 h.1)
both false b p q = (λ e. absurd (true≢false (sym e)), λ h. absurd (true≢false (sym (p.1 h.0))))

at_most : (a b : ℕ) → Decides (nat_le a b) (a ≤ b)
at_most a b = (leb-true a b, le-leb a b)

told : (b : Bool) → T b → b ≡ true
told true t = refl
told false t = absurd t

at_most_z : (a b : ℤ) → Decides (int_le a b) (a ≤ℤ b)
at_most_z a b = (λ e. le_z_yes (subst T (sym e) tt), λ h. told (int_le a b) h.le)

below_z : (a b : ℤ) → Decides (int_lt a b) (a <ℤ b)
below_z a b = (λ e. lt_z_yes (subst T (sym e) tt), λ h. told (int_lt a b) h.lt)

part : (f : Factor) (z : ℤ) → Decides (is_part_in f z) (IsCanonicalPart f z × IsPartWithin 1000000000 f z)
part (U1 fermion) z = let d = at_most (unsigned_abs z) 1000000000 in (λ e. (tt, d.0 e), λ h. d.1 h.1)
part (Zn n fermion) z =
    let d = both (int_le (pos 0) z) (int_lt z (pos n)) (at_most_z (pos 0) z) (below_z z (pos n)) in
    (λ e. (d.0 e, tt), λ h. d.1 h.0)

charge : (fs : List Factor) (zs : List ℤ) → Decides (is_charge_in fs zs) (IsCanonical fs zs × IsWithin 1000000000 fs zs)
charge [] [] = (λ e. (refl, tt), λ h. refl)
charge [] (z ∷ zs) = (λ e. absurd (true≢false (sym e)), λ h. cc)
charge (f ∷ fs) [] = (λ e. absurd (true≢false (sym e)), λ h. absurd h.0)
charge (f ∷ fs) (z ∷ zs) =
    let d = both (is_part_in f z) (is_charge_in fs zs) (part f z) (charge fs zs) in
    (λ e. let h = d.0 e in ((h.0.0, h.1.0), (h.0.1, h.1.1)), λ h. d.1 ((h.0.0, h.1.0), (h.0.1, h.1.1)))

sector : (fs : List Factor) (p : SectorValue) → Decides (is_sector_in fs p) (HasDim p × IsOf fs p)
sector fs p =
    let dim = both (nat_lt 0 p.dim) (nat_le p.dim 65536) (Decides-ltb 0 p.dim) (at_most p.dim 65536) in
    let d = both (nat_lt 0 p.dim && nat_le p.dim 65536) (is_charge_in fs p.charge) dim (charge fs p.charge) in
    (λ e. let h = d.0 e in (h.0, record { canonical = h.1.0; within = h.1.1 }), λ h. d.1 (h.0, (h.1.canonical, h.1.within)))

sectors : (fs : List Factor) (ps : List SectorValue) → Decides (list_all (is_sector_in fs) ps) (All HasDim ps × All (IsOf fs) ps)
sectors fs [] = (λ e. (All-nil HasDim, All-nil (IsOf fs)), λ h. refl)
sectors fs (p ∷ ps) =
    let d = both (is_sector_in fs p) (list_all (is_sector_in fs) ps) (sector fs p) (sectors fs ps) in (
      λ e. let h = d.0 e in (All-cons HasDim p ps h.0.0 h.1.0, All-cons (IsOf fs) p ps h.0.1 h.1.1),
      λ h. d.1 ((All-head HasDim p ps h.0, All-head (IsOf fs) p ps h.1), (All-tail HasDim p ps h.0, All-tail (IsOf fs) p ps h.1)),
    )

limits : (fs : List Factor) (ps : List SectorValue) → Decides (are_leg_sectors fs ps) (IsLeg ps × All (IsOf fs) ps)
unfolding are_leg_sectors
limits fs ps =
    let count = both (nat_lt 0 (length ps)) (nat_le (length ps) 64) (Decides-ltb 0 (length ps)) (at_most (length ps) 64) in
    let rest = both (nat_le (total ps) (2 ^ 20)) (list_all (is_sector_in fs) ps) (at_most (total ps) (2 ^ 20)) (sectors fs ps) in
    let d = both (nat_lt 0 (length ps) && nat_le (length ps) 64) (nat_le (total ps) (2 ^ 20) && list_all (is_sector_in fs) ps) count rest in (
      λ e. let h = d.0 e in (record { some = h.0.0; few = h.0.1; dims = h.1.1.0; bound = h.1.0 }, h.1.1.1),
      λ h. d.1 ((h.0.some, h.0.few), (h.0.bound, (h.0.dims, h.1))),
    )

fusable : (c : CombinerValue) → Decides (has_fused_leg c) (IsFusable c.group c.legs c.arrow)
unfolding has_fused_leg
fusable c =
    let d = limits c.group (fused_sectors c.group c.legs c.arrow) in
    (λ e. let h = d.0 e in record { leg = h.0; charges = h.1 }, λ h. d.1 (h.leg, h.charges))

-- a fused leg that keeps the limits passes the test
pub kept : (c : CombinerValue) → IsFusable c.group c.legs c.arrow → has_fused_leg c ≡ true
kept c h = (fusable c).1 h

pub failed : (b : Bool) → (b ≡ true → ⊥) → b ≡ false
failed true h = absurd (h refl)
failed false h = refl

-- and one that breaks a limit fails it
pub broken : (c : CombinerValue) → (IsFusable c.group c.legs c.arrow → ⊥) → has_fused_leg c ≡ false
broken c h = failed (has_fused_leg c) (λ e. h ((fusable c).0 e))
