-- Sectors and legs that are written are read again, and have no fault.
use Rattle.std.proofs.Common.{◌≡◌, ℕ, zero, suc, ◌+◌, ◌^◌, ◌≤◌, ◌<◌, ℤ, pos, unsigned_abs, List, [], ◌∷◌, length, map, true, false, ◌&&◌, ◌==◌, cond, Some, None, refl, ap, ap₂, ◌∙◌, arith}
use Rattle.std.specs.Prelude.{is_some, codes}
use Rattle.std.specs.List.{All, list_all}
use Rattle.std.proofs.lemmas.Bool.{le-ltb}
use Rattle.std.proofs.Math.Dec.{eqb-suc-zero}
use Rattle.std.proofs.lemmas.List.{length-map}
use Rattle.std.proofs.lemmas.List.Elements.{All-nil, All-cons, All-head, All-tail, All-weaker}
use Rattle.serde_json.specs.Data.{string}
use Rattle.qn_json.specs.Forms.{is_word}
use Rattle.qn_charge.specs.declared.factor.Factor.{Factor}
use Rattle.qn_charge.specs.Charges.{IsGroup}
use Rattle.qn_charge.specs.Laws.{within_more, length_canonical}
use Rattle.qn_index.specs.declared.leg.Dir.{Dir}
use Rattle.qn_index.specs.declared.leg.Dir.TheVariants.{Out, In}
use Rattle.qn_index.specs.Legs.{SectorValue, LegValue, HasDim, IsOf, IsSound, IsLegOf, IsLeg, total}
use Rattle.qn_parts.specs.declared.fault.Fault.{Fault}
use Rattle.qn_parts.specs.Faults.{fault, first_of}
use Rattle.qn_parts.specs.Sectors.{is_sector, is_sectors, dim_of, sector_of, first_out, has_charge_out, is_dim_out, dims_fault, sectors_fault}
use Rattle.qn_parts.specs.Tensors.{is_arrow, is_leg, are_legs, leg_of, leg_fault, sectors_data}
use Rattle.qn_json.specs.Texts.{list_data}
use Rattle.qn_parts.specs.TensorTexts.{arrow_word, sector_data, leg_data}
use Rattle.qn_doc.proofs.Written.{listed_items, items_back, all_back, map_back, first_bad_none, first_from_none}
use Rattle.qn_doc.proofs.NumbersBack.{Small, count_number, is_count_back, small_charge, is_charge_back, charge_back, first_out_none}

-- what is known of a sector
pub record IsKnown (fs : List Factor) (s : SectorValue) : Type 0 where
  pub few : length fs ≤ 4
  pub small : All Small s.charge
  pub count : length s.charge ≡ length fs
  pub of : IsOf fs s
  pub dim : HasDim s

known : (fs : List Factor) (s : SectorValue) → IsGroup fs → length fs ≤ 4 → IsOf fs s → HasDim s → IsKnown fs s
known fs s h few o d = record {
  few = few;
  small = small_charge fs s.charge h o.canonical (within_more 1000000000 1000000000000 fs s.charge (omega arith) o.within);
  count = length_canonical fs s.charge o.canonical;
  of = o;
  dim = d;
}

known_all : (fs : List Factor) (ss : List SectorValue) → IsGroup fs → length fs ≤ 4 → All (IsOf fs) ss → All HasDim ss → All (IsKnown fs) ss
known_all fs [] h few o d = All-nil (IsKnown fs)
known_all fs (s ∷ ss) h few o d =
    All-cons (IsKnown fs) s ss (known fs s h few (All-head (IsOf fs) s ss o) (All-head HasDim s ss d))
    (known_all fs ss h few (All-tail (IsOf fs) s ss o) (All-tail HasDim s ss d))

small_dim : (s : SectorValue) → HasDim s → s.dim < 2 ^ 63
small_dim s d = omega (arith, d.1)

is_sector_back : (fs : List Factor) (s : SectorValue) → IsKnown fs s → is_sector (length fs) (sector_data s) ≡ true
is_sector_back fs s k = ap₂ (λ a b. a && b) (is_charge_back (length fs) s.charge k.count k.small) (is_count_back s.dim (small_dim s k.dim))

abbrev sector_made : List ℤ → ℕ → SectorValue
sector_made c d = record { charge = c; dim = d }

sector_back : (fs : List Factor) (s : SectorValue) → IsKnown fs s → sector_of fs (sector_data s) ≡ s
sector_back fs s k = ap₂ sector_made (charge_back fs s.charge k.few k.count k.small) (ap unsigned_abs (count_number s.dim (small_dim s k.dim)))

not_out : (fs : List Factor) (s : SectorValue) → IsKnown fs s → has_charge_out fs (sector_data s) ≡ false
not_out fs s k =
    ap (λ c. is_some (first_out (pos 1000000000) fs c)) (charge_back fs s.charge k.few k.count k.small)
    ∙ ap is_some (first_out_none 1000000000 fs s.charge k.of.canonical k.of.within)

dim_in : (most t : ℕ) (s : SectorValue) → HasDim s → t + s.dim ≤ most → is_dim_out most t (dim_of (sector_data s)) ≡ false
dim_in most t s d le =
    ap (is_dim_out most t) (count_number s.dim (small_dim s d))
    ∙ rw (le-ltb s.dim 1 d.0, le-ltb 65536 s.dim d.1, le-ltb most (t + s.dim) le) refl

dims_in : (most : ℕ) (at : ℕ → Fault) (t k : ℕ) (ss : List SectorValue) → All HasDim ss → t + total ss ≤ most → dims_fault most at t k (map sector_data ss) ≡ None
dims_in most at t k [] h le = refl
dims_in most at t k (s ∷ ss) h le =
    let d = All-head HasDim s ss h in
    let dim : unsigned_abs (dim_of (sector_data s)) ≡ s.dim = ap unsigned_abs (count_number s.dim (small_dim s d)) in
    ap (λ b. cond b (Some (at k)) (dims_fault most at (t + unsigned_abs (dim_of (sector_data s))) (k + 1) (map sector_data ss))) (dim_in most t s d (omega (arith, le)))
    ∙ (ap (λ n. dims_fault most at (t + n) (k + 1) (map sector_data ss)) dim ∙ dims_in most at (t + s.dim) (k + 1) ss (All-tail HasDim s ss h) (omega (arith, le)))

pub sectors_sound : (fs : List Factor) (tensor part : ℕ) (ss : List SectorValue) → IsGroup fs → length fs ≤ 4 → IsLeg ss → All (IsOf fs) ss
    → sectors_fault fs tensor part 1048576 (map sector_data ss) ≡ None
sectors_sound fs tensor part ss h few leg o =
    let all = known_all fs ss h few o leg.dims in
    let n = length-map ss sector_data in
    let charges = first_bad_none (has_charge_out fs) (λ k. fault 9 tensor part k) sector_data ss (All-weaker (IsKnown fs) (λ s. has_charge_out fs (sector_data s) ≡ false) (not_out fs) ss all) in
    let dims = dims_in 1048576 (λ k. fault 10 tensor part k) 0 1 ss leg.dims (omega (arith, leg.bound)) in
    let some : (length (map sector_data ss) == 0) ≡ false = not_zero (length (map sector_data ss)) (omega (arith, n, leg.some)) in
    rw (charges, dims, some, le-ltb 64 (length (map sector_data ss)) (omega (arith, n, leg.few))) refl
  where
    not_zero : (n : ℕ) → 0 < n → (n == 0) ≡ false
    not_zero zero h = absurd (omega (arith, h))
    not_zero (suc n) h = eqb-suc-zero n

-- what is known of a leg
pub record IsKnownLeg (fs : List Factor) (l : LegValue) : Type 0 where
  pub group : IsGroup fs
  pub few : length fs ≤ 4
  pub sound : IsSound l
  pub of : IsLegOf fs l

pub known_legs : (fs : List Factor) (ls : List LegValue) → IsGroup fs → length fs ≤ 4 → All IsSound ls → All (IsLegOf fs) ls → All (IsKnownLeg fs) ls
known_legs fs [] h few s o = All-nil (IsKnownLeg fs)
known_legs fs (l ∷ ls) h few s o =
    All-cons (IsKnownLeg fs) l ls (record { group = h; few = few; sound = All-head IsSound l ls s; of = All-head (IsLegOf fs) l ls o })
    (known_legs fs ls h few (All-tail IsSound l ls s) (All-tail (IsLegOf fs) l ls o))

sectors_known : (fs : List Factor) (l : LegValue) → IsKnownLeg fs l → All (IsKnown fs) l.sectors
sectors_known fs l k = known_all fs l.sectors k.group k.few k.of k.sound.dims

is_sectors_back : (fs : List Factor) (l : LegValue) → IsKnownLeg fs l → is_sectors (length fs) (list_data (map sector_data l.sectors)) ≡ true
is_sectors_back fs l k =
    ap (list_all (is_sector (length fs))) (listed_items (map sector_data l.sectors))
    ∙ all_back (is_sector (length fs)) sector_data l.sectors (All-weaker (IsKnown fs) (λ s. is_sector (length fs) (sector_data s) ≡ true) (is_sector_back fs) l.sectors (sectors_known fs l k))

pub is_arrow_back : (a : Dir) → is_arrow (string (arrow_word a)) ≡ true
is_arrow_back Out = refl
is_arrow_back In = refl

pub arrow_back : (a : Dir) → cond (is_word (codes "in") (string (arrow_word a))) In Out ≡ a
arrow_back Out = refl
arrow_back In = refl

is_leg_back : (fs : List Factor) (l : LegValue) → IsKnownLeg fs l → is_leg (length fs) (leg_data l) ≡ true
unfolding is_leg
is_leg_back fs l k = ap₂ (λ a b. a && b) (is_arrow_back l.arrow) (is_sectors_back fs l k)

sectors_back : (fs : List Factor) (l : LegValue) → IsKnownLeg fs l → map (sector_of fs) (sectors_data (leg_data l)) ≡ l.sectors
sectors_back fs l k =
    ap (map (sector_of fs)) (items_back (map sector_data l.sectors))
    ∙ map_back (sector_of fs) sector_data l.sectors (All-weaker (IsKnown fs) (λ s. sector_of fs (sector_data s) ≡ s) (sector_back fs) l.sectors (sectors_known fs l k))

abbrev leg_made : Dir → List SectorValue → LegValue
leg_made a ss = record { arrow = a; sectors = ss }

leg_back : (fs : List Factor) (l : LegValue) → IsKnownLeg fs l → leg_of fs (leg_data l) ≡ l
leg_back fs l k = ap₂ leg_made (arrow_back l.arrow) (sectors_back fs l k)

leg_sound : (fs : List Factor) (tensor : ℕ) (l : LegValue) → IsKnownLeg fs l → (k : ℕ) → leg_fault fs tensor k (leg_data l) ≡ None
leg_sound fs tensor l h k =
    ap (sectors_fault fs tensor k 1048576) (items_back (map sector_data l.sectors)) ∙ sectors_sound fs tensor k l.sectors h.group h.few h.sound h.of

pub are_legs_back : (fs : List Factor) (ls : List LegValue) → All (IsKnownLeg fs) ls → are_legs (length fs) (list_data (map leg_data ls)) ≡ true
are_legs_back fs ls all =
    ap (list_all (is_leg (length fs))) (listed_items (map leg_data ls))
    ∙ all_back (is_leg (length fs)) leg_data ls (All-weaker (IsKnownLeg fs) (λ l. is_leg (length fs) (leg_data l) ≡ true) (is_leg_back fs) ls all)

pub legs_back : (fs : List Factor) (ls : List LegValue) → All (IsKnownLeg fs) ls → map (leg_of fs) (map leg_data ls) ≡ ls
legs_back fs ls all = map_back (leg_of fs) leg_data ls (All-weaker (IsKnownLeg fs) (λ l. leg_of fs (leg_data l) ≡ l) (leg_back fs) ls all)

pub legs_sound : (fs : List Factor) (tensor : ℕ) (ls : List LegValue) → All (IsKnownLeg fs) ls → first_of (leg_fault fs tensor) (map leg_data ls) ≡ None
legs_sound fs tensor ls all =
    first_from_none (leg_fault fs tensor) leg_data 1 ls
    (All-weaker (IsKnownLeg fs) (λ l. (k : ℕ) → leg_fault fs tensor k (leg_data l) ≡ None) (leg_sound fs tensor) ls all)
