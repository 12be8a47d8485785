-- The shapes of the tensors are within the limits, and their charges are of the group.
use Rattle.std.proofs.Common.{◌≡◌, sym, refl, ap, subst, ℕ, ℤ, zero, suc, ◌+◌, ◌*◌, ◌-◌, ◌<◌, ◌≤◌, pos, List, [], ◌∷◌, ◌++◌, arith, length, get_or, cond, eqb, Bool, true, false, ⊎_elim}
use Rattle.std.proofs.Math.ListN.{get_or-eq_default}
use Rattle.std.proofs.Math.Nat.{mul-le-mul_left, mul-le-mul_right}
use Rattle.std.proofs.lemmas.Bool.{cases_lt}
use Rattle.std.proofs.lemmas.List.Sums.{count_by-le-length, length-filter}
use Rattle.std.proofs.lemmas.List.Elements.{All-from_get_or}
use Rattle.std.specs.List.{All}
use Rattle.qn_charge.specs.declared.factor.Factor.{Factor}
use Rattle.qn_index.specs.declared.leg.Dir.{Dir}
use Rattle.qn_index.specs.declared.leg.Dir.TheVariants.{Out, In}
use Rattle.qn_index.specs.Legs.{IsLegOf, IsOf, LegValue, SectorValue, no_sector, sector_at}
use Rattle.qn_index.specs.Tuples.{IsFlux, admits, admitted, count, tuples}
use Rattle.qn_index.specs.Places.{block_size}
use Rattle.qn_index.specs.Extents.{IsWithinLimits, size_of}
use Rattle.qn_index.proofs.Shapes.{length_tuples}
use Rattle.qn_gen.specs.Workload.{flux_at, group, least, legs_at, link_dim, link_sectors, particles, site_leg}
use Rattle.qn_gen.proofs.LinkSectors.{count_is, dim_few, sector, sector_is, width}

-- a leg of at most 3 sectors, of at most 8 values each
pub record IsSmall (l : LegValue) : Type 0 where
  pub sectors : length l.sectors ≤ 3
  pub dims : (i : ℕ) → (sector_at l.sectors i).dim ≤ 8

abbrev AreSmall : List LegValue → Type 0
AreSmall [] = Unit {0}
AreSmall (l ∷ ls) = IsSmall l × AreSmall ls

-- 3 and 8 to the number of legs
abbrev most_tuples : List LegValue → ℕ
most_tuples [] = 1
most_tuples (l ∷ ls) = 3 * most_tuples ls

abbrev most_values : List LegValue → ℕ
most_values [] = 1
most_values (l ∷ ls) = 8 * most_values ls

product : (a b c d : ℕ) → a ≤ c → b ≤ d → a * b ≤ c * d
product a b c d p q = omega (arith, mul-le-mul_left {m = b} {n = d} a q, mul-le-mul_right {m = a} {n = c} d p)

count_le : (ls : List LegValue) → AreSmall ls → count ls ≤ most_tuples ls
count_le [] s = omega arith
count_le (l ∷ ls) s = product (length l.sectors) (count ls) 3 (most_tuples ls) s.0.sectors (count_le ls s.1)

values_some : (ls : List LegValue) → 1 ≤ most_values ls
values_some [] = omega arith
values_some (l ∷ ls) = omega (arith, values_some ls)

size_le : (ls : List LegValue) → AreSmall ls → (t : List ℕ) → block_size ls t ≤ most_values ls
size_le [] s t = omega arith
size_le (l ∷ ls) s [] = values_some (l ∷ ls)
size_le (l ∷ ls) s (i ∷ t) = product (sector_at l.sectors i).dim (block_size ls t) 8 (most_values ls) (s.0.dims i) (size_le ls s.1 t)

sizes_le : (ls : List LegValue) → AreSmall ls → (ts : List (List ℕ)) → size_of ls ts ≤ length ts * most_values ls
sizes_le ls s [] = omega arith
sizes_le ls s (t ∷ ts) = omega (arith, size_le ls s t, sizes_le ls s ts)

admitted_le : (fs : List Factor) (ls : List LegValue) (q : List ℤ) → length (admitted fs ls q) ≤ count ls
admitted_le fs ls q = omega (arith, length-filter (admits fs ls q) (tuples ls), count_by-le-length (admits fs ls q) (tuples ls), length_tuples ls)

within : (fs : List Factor) (ls : List LegValue) (q : List ℤ) → AreSmall ls → length ls ≤ 3 → most_tuples ls ≤ 27 → most_values ls ≤ 512 → IsWithinLimits fs ls q
within fs ls q s few tuples values =
    let number : count ls ≤ 27 = omega (arith, count_le ls s, tuples) in
    let all : size_of ls (admitted fs ls q) ≤ 27 * 512 = omega (arith, sizes_le ls s (admitted fs ls q), product (length (admitted fs ls q)) (most_values ls) 27 512 (omega (arith, admitted_le fs ls q, number)) values) in
    record { legs = omega (arith, few); tuples = omega (arith, number); entries = omega (arith, all) }

-- the leg of a link

abbrev pub link_leg : Dir → ℕ → ℕ → LegValue
link_leg dir n j = record { arrow = dir; sectors = link_sectors n j }

link_small : (dir : Dir) (n j : ℕ) → n ≤ 32 → IsSmall (link_leg dir n j)
link_small dir n j few = record {
  sectors = omega (arith, count_is n j);
  dims = λ i. ⊎_elim
      (λ lt. let e : (sector_at (link_sectors n j) i).dim ≡ link_dim n = ap (λ (s : SectorValue). s.dim) (sector_is n j i lt) in omega (arith, e, dim_few n))
      (λ ge. let e : (sector_at (link_sectors n j) i).dim ≡ 0 = ap (λ (s : SectorValue). s.dim) (get_or-eq_default (link_sectors n j) no_sector {n = i} (omega (arith, ge, count_is n j))) in omega (arith, e))
      (cases_lt i (width n j));
}

sector_of_group : (d q : ℕ) → q ≤ 33 → IsOf group (sector d q)
sector_of_group d q le = record { canonical = (tt, refl); within = (omega (arith, le), tt) }

link_of_group : (dir : Dir) (n j : ℕ) → n ≤ 32 → IsLegOf group (link_leg dir n j)
link_of_group dir n j few =
    All-from_get_or (IsOf group) (link_sectors n j) no_sector (λ i lt.
    let w : i < width n j = omega (arith, lt, count_is n j) in
    subst (IsOf group) (sym (sector_is n j i w)) (sector_of_group (link_dim n) (least n j + i) (omega (arith, w))))

-- the leg of a site

site_small : IsSmall site_leg
site_small = record { sectors = omega arith; dims = by }
  where
    by : (i : ℕ) → (sector_at site_leg.sectors i).dim ≤ 8
    by zero = omega arith
    by (suc zero) = omega arith
    by (suc (suc i)) = omega arith

site_of_group : IsLegOf group site_leg
site_of_group = All-from_get_or (IsOf group) site_leg.sectors no_sector by
  where
    by : (i : ℕ) → i < 2 → IsOf group (get_or site_leg.sectors i no_sector)
    by zero lt = sector_of_group 1 0 (omega arith)
    by (suc zero) lt = sector_of_group 1 1 (omega arith)
    by (suc (suc i)) lt = absurd (omega (arith, lt))

-- the legs of a tensor

abbrev pub framed : Bool → Bool → LegValue → LegValue → LegValue → List LegValue
framed a b l s r = cond a [] (l ∷ []) ++ (s ∷ cond b [] (r ∷ []))

framed_within : (a b : Bool) (l s r : LegValue) (q : List ℤ) → IsSmall l → IsSmall s → IsSmall r → IsWithinLimits group (framed a b l s r) q
framed_within true true l s r q x y z = within group (s ∷ []) q (y, tt) (omega arith) (omega arith) (omega arith)
framed_within true false l s r q x y z = within group (s ∷ r ∷ []) q (y, (z, tt)) (omega arith) (omega arith) (omega arith)
framed_within false true l s r q x y z = within group (l ∷ s ∷ []) q (x, (y, tt)) (omega arith) (omega arith) (omega arith)
framed_within false false l s r q x y z = within group (l ∷ s ∷ r ∷ []) q (x, (y, (z, tt))) (omega arith) (omega arith) (omega arith)

framed_of_group : (a b : Bool) (l s r : LegValue) → IsLegOf group l → IsLegOf group s → IsLegOf group r → All (IsLegOf group) (framed a b l s r)
framed_of_group a b l s r x y z = All-from_get_or (IsLegOf group) (framed a b l s r) s (by a b)
  where
    by : (a b : Bool) (i : ℕ) → i < length (framed a b l s r) → IsLegOf group (get_or (framed a b l s r) i s)
    by true true zero lt = y
    by true true (suc i) lt = absurd (omega (arith, lt))
    by true false zero lt = y
    by true false (suc zero) lt = z
    by true false (suc (suc i)) lt = absurd (omega (arith, lt))
    by false true zero lt = x
    by false true (suc zero) lt = y
    by false true (suc (suc i)) lt = absurd (omega (arith, lt))
    by false false zero lt = x
    by false false (suc zero) lt = y
    by false false (suc (suc zero)) lt = z
    by false false (suc (suc (suc i))) lt = absurd (omega (arith, lt))

pub legs_within : (n j : ℕ) (q : List ℤ) → n ≤ 32 → IsWithinLimits group (legs_at n j) q
legs_within n j q few = framed_within (eqb j 1) (eqb j n) (link_leg Out n (j - 1)) site_leg (link_leg In n j) q (link_small Out n (j - 1) few) site_small (link_small In n j few)

pub legs_of_group : (n j : ℕ) → n ≤ 32 → All (IsLegOf group) (legs_at n j)
legs_of_group n j few = framed_of_group (eqb j 1) (eqb j n) (link_leg Out n (j - 1)) site_leg (link_leg In n j) (link_of_group Out n (j - 1) few) site_of_group (link_of_group In n j few)

pub flux_small : (n j : ℕ) → n ≤ 32 → IsFlux group (flux_at n j)
flux_small n j few = by (eqb j n)
  where
    by : (b : Bool) → IsFlux group (cond b (pos (particles n)) (pos 0) ∷ [])
    by true = record { canonical = (tt, refl); within = (omega (arith, few), tt) }
    by false = record { canonical = (tt, refl); within = (omega arith, tt) }

-- the same of a group and legs that are known to be these

pub legs_given : (fs : List Factor) (ls : List LegValue) (n j : ℕ) → fs ≡ group → ls ≡ legs_at n j → n ≤ 32 → All (IsLegOf fs) ls
legs_given fs ls n j p q few = subst (λ (gs : List Factor). All (IsLegOf gs) ls) (sym p) (subst (λ (ks : List LegValue). All (IsLegOf group) ks) (sym q) (legs_of_group n j few))

pub shape_given : (fs : List Factor) (ls : List LegValue) (q : List ℤ) (n j : ℕ) → fs ≡ group → ls ≡ legs_at n j → n ≤ 32 → IsWithinLimits fs ls q
shape_given fs ls q n j p e few = subst (λ (gs : List Factor). IsWithinLimits gs ls q) (sym p) (subst (λ (ks : List LegValue). IsWithinLimits group ks q) (sym e) (legs_within n j q few))

pub flux_given : (fs : List Factor) (q : List ℤ) (n j : ℕ) → fs ≡ group → q ≡ flux_at n j → n ≤ 32 → IsFlux fs q
flux_given fs q n j p e few = subst (λ (gs : List Factor). IsFlux gs q) (sym p) (subst (λ (r : List ℤ). IsFlux group r) (sym e) (flux_small n j few))
