-- What the walk lets through is a group, and a leg.
use Rattle.std.proofs.Common.{◌≡◌, ℕ, suc, zero, ◌+◌, ◌%◌, ◌^◌, ◌≤◌, ◌<◌, ℤ, pos, negsuc, List, [], ◌∷◌, length, map, Bool, true, false, ◌&&◌, ◌||◌, ◌==◌, cond, Some, None, inl, inr, ⊎_elim, refl, sym, subst, ◌∙◌, arith, true≢false}
use Rattle.std.specs.Prelude.{Option, int_lt, nat_lt, unsigned_abs, is_some}
use Rattle.std.specs.Option.{option_or, option_map}
use Rattle.std.specs.List.{position_from, zip}
use Rattle.std.proofs.lemmas.Bool.{ltb-false, eq-eqb, cases_eq}
use Rattle.std.proofs.lemmas.List.{length-map, length-take}
use Rattle.serde_json.specs.Data.{Data}
use Rattle.qn_charge.specs.declared.factor.Factor.{Factor}
use Rattle.qn_charge.specs.declared.factor.Factor.TheVariants.{U1, Zn}
use Rattle.qn_charge.specs.declared.fault.GroupFault.{GroupFault}
use Rattle.qn_charge.specs.declared.fault.GroupFault.TheVariants.{Modulus, OddFermion}
use Rattle.qn_charge.specs.Charges.{IsFactor, IsGroup}
use Rattle.qn_charge.specs.Faults.{IsBadModulus, IsOddFermion, BadModulusAt, OddFermionAt, IsFirstFault}
use Rattle.qn_charge.specs.Ranges.{OutOfBound}
use Rattle.qn_index.specs.declared.leg.LegFault.{LegFault}
use Rattle.qn_index.specs.declared.leg.LegFault.TheVariants.{ChargeRange, DimRange, NoSector, TooManySectors}
use Rattle.qn_index.specs.Legs.{sector_at, before}
use Rattle.qn_index.specs.Refusals.{BadCharge, BadDim, IsFirstLegFault}
use Rattle.qn_parts.specs.declared.fault.Fault.{Fault}
use Rattle.qn_parts.specs.Faults.{fault, fault_if, first_from, first_of, first_bad}
use Rattle.qn_parts.specs.Groups.{is_cyclic, modulus, is_fermionic, has_bad_modulus, is_odd_fermion, modulus_fault, group_fault, factor_of}
use Rattle.qn_parts.specs.Sectors.{is_part_out, first_out, has_charge_out, is_dim_out, dim_of, dims_fault, sectors_fault, sector_of, numbers, first_of_pair}
use Rattle.qn_json.specs.Tree.{items}
use Rattle.qn_json.proofs.Lists.{parts_none, or_false}
use Rattle.qn_parts.proofs.Ranges.{part_in}
use Rattle.qn_facts.proofs.Options.{none_head}

pub not_mapped : {A B : Type 0} (f : A → B) (o : Option A) → option_map f o ≡ None → o ≡ None
not_mapped f None e = refl
not_mapped f (Some x) e = cc

-- ---- groups

even : (n : ℕ) (f : Bool) → (f && (n % 2 == 1)) ≡ false → f ≡ true → n % 2 ≡ 0
even n true b e =
    ⊎_elim (λ one. absurd (true≢false (sym (eq-eqb (n % 2) 1 one) ∙ b))) (λ other. omega arith) (cases_eq (n % 2) 1)
even n false b e = absurd (true≢false (sym e))

sound_factor : (c : Bool) (m : ℤ) (f : Bool) → (c && (int_lt m (pos 2) || int_lt (pos 1000) m)) ≡ false → (c && (f && (unsigned_abs m % 2 == 1))) ≡ false
    → IsFactor (cond c (Zn (unsigned_abs m) f) (U1 f))
sound_factor false m f a b = tt
sound_factor true (negsuc n) f a b = absurd (true≢false a)
sound_factor true (pos n) f a b =
    let range = or_false (nat_lt n 2) (nat_lt 1000 n) a in
    (ltb-false n 2 range.0, ltb-false 1000 n range.1, even n f b)

sound_list : (ds : List Data) (n m : ℕ) → first_from modulus_fault n ds ≡ None → position_from is_odd_fermion m ds ≡ None → IsGroup (map factor_of ds)
sound_list [] n m a b = tt
sound_list (d ∷ ds) n m a b =
    let here = parts_none (fault_if (has_bad_modulus d) (fault 5 0 n 0)) (first_from modulus_fault (n + 1) ds) a in
    let odd = none_head (is_odd_fermion d) m (position_from is_odd_fermion (m + 1) ds) b in
    (sound_factor (is_cyclic d) (modulus d) (is_fermionic d) (none_head (has_bad_modulus d) (fault 5 0 n 0) None here.0).0 odd.0, sound_list ds (n + 1) (m + 1) here.1 odd.1)

-- factors without a fault are a group
pub sound_factors : (ds : List Data) → group_fault ds ≡ None → IsGroup (map factor_of ds)
sound_factors ds e =
    let odd : Option Fault = first_bad is_odd_fermion (λ k. fault 6 0 k 0) ds in
    let later = (parts_none (fault_if (nat_lt 4 (length ds)) (fault 4 0 0 0)) (option_or (first_of modulus_fault ds) odd) e).1 in
    let both = parts_none (first_of modulus_fault ds) odd later in
    sound_list ds 1 0 both.0 (not_mapped (λ i. fault 6 0 (i + 1) 0) (position_from is_odd_fermion 0 ds) both.1)

modulus_good : (f : Factor) → IsFactor f → IsBadModulus f → ⊥
modulus_good (U1 fermion) h o = o
modulus_good (Zn n fermion) h o = elim o [ inl p ↦ omega (arith, p, h.0) | inr p ↦ omega (arith, p, h.1) ]

parity_good : (f : Factor) → IsFactor f → IsOddFermion f → ⊥
parity_good (U1 fermion) h o = o
parity_good (Zn n fermion) h o = omega (arith, h.2 o.0, o.1)

moduli_good : (fs : List Factor) (i : ℕ) → IsGroup fs → BadModulusAt fs i → ⊥
moduli_good [] i h o = omega (arith, o.0)
moduli_good (f ∷ fs) zero h o = modulus_good f h.0 o.1
moduli_good (f ∷ fs) (suc i) h o = moduli_good fs i h.1 (omega (arith, o.0), o.1)

parities_good : (fs : List Factor) (i : ℕ) → IsGroup fs → OddFermionAt fs i → ⊥
parities_good [] i h o = omega (arith, o.0)
parities_good (f ∷ fs) zero h o = parity_good f h.0 o.1
parities_good (f ∷ fs) (suc i) h o = parities_good fs i h.1 (omega (arith, o.0), o.1)

-- a group is refused for nothing
pub group_accepted : (fs : List Factor) (e : GroupFault) → IsGroup fs → IsFirstFault fs e → ⊥
group_accepted fs (Modulus i) h o = moduli_good fs i h o.here
group_accepted fs (OddFermion i) h o = parities_good fs i h o.1.here

-- ---- legs

abbrev out : ℤ → Factor × ℤ → Bool
out bound p = is_part_out bound p.0 p.1

parts_inside : (bound : ℤ) (fs : List Factor) (xs : List ℤ) (n j : ℕ) → length xs ≡ length fs → position_from (out bound) n (zip fs xs) ≡ None → OutOfBound bound fs xs j → ⊥
parts_inside bound [] xs n j len e o = omega (arith, o.0)
parts_inside bound (f ∷ fs) [] n j len e o = omega (arith, len)
parts_inside bound (f ∷ fs) (x ∷ xs) n zero len e o =
    part_in bound f x (none_head (is_part_out bound f x) n (position_from (out bound) (n + 1) (zip fs xs)) e).0 o.1
parts_inside bound (f ∷ fs) (x ∷ xs) n (suc j) len e o =
    parts_inside bound fs xs (n + 1) j (omega (arith, len)) (none_head (is_part_out bound f x) n (position_from (out bound) (n + 1) (zip fs xs)) e).1 (omega (arith, o.0), o.1)

not_some : {A : Type 0} (o : Option A) → is_some o ≡ false → o ≡ None
not_some None e = refl
not_some (Some x) e = cc

numbers_length : (n : ℕ) (ds : List Data) → n ≤ 4 → length (numbers n ds) ≡ n
numbers_length n ds few = omega (arith, length-take {A = ℤ})

charges_inside : (fs : List Factor) (ds : List Data) (n i : ℕ) → length fs ≤ 4 → position_from (has_charge_out fs) n ds ≡ None → BadCharge fs (map (sector_of fs) ds) i → ⊥
charges_inside fs [] n i few e o = omega (arith, o.0)
charges_inside fs (d ∷ ds) n zero few e o =
    let charge : List ℤ = (sector_of fs d).charge in
    let here = none_head (has_charge_out fs d) n (position_from (has_charge_out fs) (n + 1) ds) e in
    parts_inside (pos 1000000000) fs charge 0 o.1.0 (numbers_length (length fs) (items (first_of_pair (items d))) few) (not_some (first_out (pos 1000000000) fs charge) here.0) o.1.1
charges_inside fs (d ∷ ds) n (suc i) few e o =
    charges_inside fs ds (n + 1) i few (none_head (has_charge_out fs d) n (position_from (has_charge_out fs) (n + 1) ds) e).1 (omega (arith, o.0), o.1)

dim_inside : (most t : ℕ) (z : ℤ) → is_dim_out most t z ≡ false → (1 ≤ unsigned_abs z) × (unsigned_abs z ≤ 65536) × (t + unsigned_abs z ≤ most)
dim_inside most t (negsuc n) e = absurd (true≢false e)
dim_inside most t (pos n) e =
    let total = or_false (nat_lt n 1 || nat_lt 65536 n) (nat_lt most (t + n)) e in
    let range = or_false (nat_lt n 1) (nat_lt 65536 n) total.0 in
    (ltb-false n 1 range.0, ltb-false 65536 n range.1, ltb-false most (t + n) total.1)

-- each dimension is in range, and the total up to it
dims_inside : (fs : List Factor) (most : ℕ) (at : ℕ → Fault) (t k : ℕ) (ds : List Data) (i : ℕ) → dims_fault most at t k ds ≡ None → i < length (map (sector_of fs) ds)
    → (1 ≤ (sector_at (map (sector_of fs) ds) i).dim) × ((sector_at (map (sector_of fs) ds) i).dim ≤ 65536) × (t + before (map (sector_of fs) ds) (suc i) ≤ most)
dims_inside fs most at t k [] i e lt = absurd (omega (arith, lt))
dims_inside fs most at t k (d ∷ ds) zero e lt =
    let here = dim_inside most t (dim_of d) (none_head (is_dim_out most t (dim_of d)) (at k) (dims_fault most at (t + unsigned_abs (dim_of d)) (k + 1) ds) e).0 in
    (here.0, here.1, omega (arith, here.2))
dims_inside fs most at t k (d ∷ ds) (suc i) e lt =
    let later = dims_inside fs most at (t + unsigned_abs (dim_of d)) (k + 1) ds i (none_head (is_dim_out most t (dim_of d)) (at k) (dims_fault most at (t + unsigned_abs (dim_of d)) (k + 1) ds) e).1 (omega (arith, lt)) in
    (later.0, later.1, omega (arith, later.2))

bad_dim : (fs : List Factor) (at : ℕ → Fault) (ds : List Data) (i : ℕ) → dims_fault 1048576 at 0 1 ds ≡ None → BadDim (map (sector_of fs) ds) i → ⊥
bad_dim fs at ds i e o =
    let h = dims_inside fs 1048576 at 0 1 ds i e o.0 in
    let place : i + 1 ≡ suc i = omega arith in
    elim o.1 [
      | inl z ↦ omega (arith, z, h.0)
      | inr r ↦ elim r [ inl w ↦ omega (arith, w, h.1) | inr w ↦ omega (arith, subst (λ n. 2 ^ 20 < before (map (sector_of fs) ds) n) place w, h.2) ]
    ]

-- sectors without a fault are a leg
pub leg_accepted : (fs : List Factor) (tensor part : ℕ) (ds : List Data) (e : LegFault) → length fs ≤ 4 → sectors_fault fs tensor part 1048576 ds ≡ None
    → IsFirstLegFault fs (map (sector_of fs) ds) e → ⊥
leg_accepted fs tensor part ds e few none = by e
  where
    charges : Option Fault
    charges = first_bad (has_charge_out fs) (λ k. fault 9 tensor part k) ds

    dims : Option Fault
    dims = dims_fault 1048576 (λ k. fault 10 tensor part k) 0 1 ds

    count : Option Fault
    count = fault_if (length ds == 0 || nat_lt 64 (length ds)) (fault 11 tensor part 0)

    first : position_from (has_charge_out fs) 0 ds ≡ None
    first = not_mapped (λ i. fault 9 tensor part (i + 1)) (position_from (has_charge_out fs) 0 ds) (parts_none charges (option_or dims count) none).0

    later : (dims ≡ None) × (count ≡ None)
    later = parts_none dims count (parts_none charges (option_or dims count) none).1

    number : ((length ds == 0) ≡ false) × (nat_lt 64 (length ds) ≡ false)
    number = or_false (length ds == 0) (nat_lt 64 (length ds)) (none_head (length ds == 0 || nat_lt 64 (length ds)) (fault 11 tensor part 0) None later.1).0

    by : (e : LegFault) → IsFirstLegFault fs (map (sector_of fs) ds) e → ⊥
    by (ChargeRange i) h = charges_inside fs ds 0 i few first h.here
    by (DimRange i) h = bad_dim fs (λ k. fault 10 tensor part k) ds i later.0 h.1.here
    by NoSector h = true≢false (sym (eq-eqb (length ds) 0 (sym (length-map ds (sector_of fs)) ∙ h.2)) ∙ number.0)
    by TooManySectors h = omega (arith, h.2, length-map ds (sector_of fs), ltb-false 64 (length ds) number.1)
