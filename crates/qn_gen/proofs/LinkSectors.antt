-- The links between sites: how many sectors they have, and that these are the sectors of a leg.
use Rattle.std.proofs.Common.{◌≡◌, refl, ap, subst, ℕ, zero, suc, ◌+◌, ◌-◌, ◌*◌, ◌<◌, ◌≤◌, ◌⊎◌, inl, inr, pos, List, [], ◌∷◌, ◌++◌, map, arith, length, cond, leb, Bool, true, false}
use Rattle.std.proofs.lemmas.Int.{ints}
use Rattle.std.proofs.lemmas.List.FromFn.{get_or-map-range_with_len, length-map-range_with_len, map-range_with_len_more}
use Rattle.std.specs.List.{range_with_len}
use Rattle.qn_charge.specs.declared.factor.Factor.{Factor}
use Rattle.qn_charge.specs.Firsts.{OutOfRange}
use Rattle.qn_index.specs.declared.leg.LegFault.{LegFault}
use Rattle.qn_index.specs.declared.leg.LegFault.TheVariants.{ChargeRange, DimRange, NoSector, TooManySectors}
use Rattle.qn_index.specs.Legs.{SectorValue, before, no_sector, sector_at, total}
use Rattle.qn_index.specs.Refusals.{IsFirstLegFault}
use Rattle.qn_index.proofs.Sectors.{before_le}
use Rattle.qn_gen.specs.Workload.{greatest, group, least, link_dim, link_sectors}

-- the sector of a charge
abbrev pub sector : ℕ → ℕ → SectorValue
sector d q = record { charge = pos q ∷ []; dim = d }

-- how many sectors a link has
abbrev pub width : ℕ → ℕ → ℕ
width n j = suc (greatest n j) - least n j

pub record IsNarrow (n j : ℕ) : Type 0 where
  pub some : 0 < width n j
  pub few : width n j ≤ 3
  pub last : least n j + width n j ≤ 33

pub narrow : (n j : ℕ) → 0 < j → j < n → n ≤ 32 → IsNarrow n j
narrow n j some lt few = record { some = omega arith; few = omega arith; last = omega arith }

pub dim_some : (n : ℕ) → 0 < link_dim n
dim_some n = by (leb n 12) (leb n 16) (leb n 22)
  where
    by : (a b c : Bool) → 0 < cond a 8 (cond b 4 (cond c 2 1))
    by true b c = omega arith
    by false true c = omega arith
    by false false true = omega arith
    by false false false = omega arith

pub dim_few : (n : ℕ) → link_dim n ≤ 8
dim_few n = by (leb n 12) (leb n 16) (leb n 22)
  where
    by : (a b c : Bool) → cond a 8 (cond b 4 (cond c 2 1)) ≤ 8
    by true b c = omega arith
    by false true c = omega arith
    by false false true = omega arith
    by false false false = omega arith

-- one sector more
pub sectors_more : (d a i : ℕ) (ss ts : List SectorValue) (s : SectorValue) → a ≤ i → ss ≡ map (sector d) (range_with_len a (i - a)) → s ≡ sector d i → ts ≡ ss ++ s ∷ [] → ts ≡ map (sector d) (range_with_len a (i + 1 - a))
sectors_more d a i ss ts s le p q r =
    let e : i - a + 1 ≡ i + 1 - a = omega (arith, le) in
    let more = map-range_with_len_more (sector d) a (i - a) i (omega (arith, le)) in
    let all : map (sector d) (range_with_len a (i - a + 1)) ≡ map (sector d) (range_with_len a (i + 1 - a)) = ap (λ k. map (sector d) (range_with_len a k)) e in
    cc

-- the sectors of a link by their places
pub sector_is : (n j i : ℕ) → i < width n j → sector_at (link_sectors n j) i ≡ sector (link_dim n) (least n j + i)
sector_is n j i lt = get_or-map-range_with_len (sector (link_dim n)) (least n j) (width n j) i (least n j + i) no_sector lt refl

pub count_is : (n j : ℕ) → length (link_sectors n j) ≡ width n j
count_is n j = length-map-range_with_len (sector (link_dim n)) (least n j) (width n j)

total_le : (d a n : ℕ) → d ≤ 8 → total (map (sector d) (range_with_len a n)) ≤ 8 * n
total_le d a zero le = omega arith
total_le d a (suc n) le = omega (arith, le, total_le d (a + 1) n le)

-- a small charge is not out of range
in_range : (q : ℕ) → q ≤ 33 → (k : ℕ) → OutOfRange 1000000000 group (pos q ∷ []) k → ⊥
in_range q le zero (_, inl low) = omega (arith, ints, low)
in_range q le zero (_, inr high) = omega (arith, ints, high, le)
in_range q le (suc k) o = absurd (omega (arith, o.0))

-- the sectors of a link have no fault
pub no_link_fault : (n j : ℕ) (e : LegFault) → 0 < j → j < n → n ≤ 32 → IsFirstLegFault group (link_sectors n j) e → ⊥
no_link_fault n j (ChargeRange i) some lt few p =
    let s = narrow n j some lt few in
    let within : i < width n j = omega (arith, count_is n j, p.here.0) in
    in_range (least n j + i) (omega (arith, s.last, within)) p.here.1.0 (subst (λ (t : SectorValue). OutOfRange 1000000000 group t.charge p.here.1.0) (sector_is n j i within) p.here.1.1)
no_link_fault n j (DimRange i) some lt few p = by p.1.here.1
  where
    s : IsNarrow n j
    s = narrow n j some lt few

    within : i < width n j
    within = omega (arith, count_is n j, p.1.here.0)

    dim : (sector_at (link_sectors n j) i).dim ≡ link_dim n
    dim = ap (λ (t : SectorValue). t.dim) (sector_is n j i within)

    by : ((sector_at (link_sectors n j) i).dim ≡ 0) ⊎ (65536 < (sector_at (link_sectors n j) i).dim) ⊎ (1048576 < before (link_sectors n j) (i + 1)) → ⊥
    by (inl none) = absurd (omega (arith, dim, dim_some n, none))
    by (inr (inl many)) = absurd (omega (arith, dim, dim_few n, many))
    by (inr (inr much)) = absurd (omega (arith, much, before_le (link_sectors n j) (i + 1), total_le (link_dim n) (least n j) (width n j) (dim_few n), s.few))
no_link_fault n j NoSector some lt few p = absurd (omega (arith, (narrow n j some lt few).some, count_is n j, p.2))
no_link_fault n j TooManySectors some lt few p = absurd (omega (arith, (narrow n j some lt few).few, count_is n j, p.2))

-- the same of a list and a group that are known to be these
pub no_fault_of : (n j : ℕ) (e : LegFault) (fs : List Factor) (ss : List SectorValue) → fs ≡ group → ss ≡ link_sectors n j → 0 < j → j < n → n ≤ 32 → IsFirstLegFault fs ss e → ⊥
no_fault_of n j e fs ss p q some lt few fault =
    no_link_fault n j e some lt few (subst (λ (gs : List Factor). IsFirstLegFault gs (link_sectors n j) e) p (subst (λ (ts : List SectorValue). IsFirstLegFault fs ts e) q fault))
