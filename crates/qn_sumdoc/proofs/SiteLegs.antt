-- Sectors whose dimensions add up to at most 64 are the leg of a site.
use Rattle.std.proofs.Common.{◌≡◌, ℕ, ◌+◌, ◌≤◌, ℤ, pos, List, [], ◌∷◌, length, map, Bool, true, false, ◌||◌, ◌==◌, cond, Some, None, refl, ap, ap₂, ◌∙◌, arith}
use Rattle.std.specs.Prelude.{Option, int_lt, nat_lt, unsigned_abs}
use Rattle.std.specs.Option.{option_or}
use Rattle.std.proofs.lemmas.Bool.{le-ltb, ltb-false}
use Rattle.serde_json.specs.Data.{Data}
use Rattle.qn_charge.specs.declared.factor.Factor.{Factor}
use Rattle.qn_index.specs.Legs.{total}
use Rattle.qn_index.specs.declared.leg.LegFault.{LegFault}
use Rattle.qn_index.specs.Refusals.{IsFirstLegFault}
use Rattle.qn_parts.specs.declared.fault.Fault.{Fault}
use Rattle.qn_parts.specs.Faults.{fault, fault_if, first_bad}
use Rattle.qn_parts.specs.Sectors.{has_charge_out, is_dim_out, dim_of, dims_fault, sectors_fault, sector_of}
use Rattle.qn_json.proofs.Lists.{parts_none, or_false}
use Rattle.qn_parts.proofs.Accepted.{leg_accepted}
use Rattle.qn_facts.proofs.Options.{none_head}

fits : (most t : ℕ) (z : ℤ) → is_dim_out most t z ≡ false → t + unsigned_abs z ≤ most
fits most t z e = ltb-false most (t + unsigned_abs z) (or_false (int_lt z (pos 1) || int_lt (pos 65536) z) (nat_lt most (t + unsigned_abs z)) e).1

wider_dim : (most more t : ℕ) (z : ℤ) → most ≤ more → is_dim_out most t z ≡ false → is_dim_out more t z ≡ false
wider_dim most more t z le e =
    let range = (or_false (int_lt z (pos 1) || int_lt (pos 65536) z) (nat_lt most (t + unsigned_abs z)) e).0 in
    ap₂ (λ a b. a || b) range (le-ltb more (t + unsigned_abs z) (omega (arith, le, fits most t z e)))

wider_dims : (most more : ℕ) (at : ℕ → Fault) (t k : ℕ) (ds : List Data) → most ≤ more → dims_fault most at t k ds ≡ None → dims_fault more at t k ds ≡ None
wider_dims most more at t k [] le e = refl
wider_dims most more at t k (d ∷ ds) le e =
    let here = none_head (is_dim_out most t (dim_of d)) (at k) (dims_fault most at (t + unsigned_abs (dim_of d)) (k + 1) ds) e in
    ap (λ b. cond b (Some (at k)) (dims_fault more at (t + unsigned_abs (dim_of d)) (k + 1) ds)) (wider_dim most more t (dim_of d) le here.0)
    ∙ wider_dims most more at (t + unsigned_abs (dim_of d)) (k + 1) ds le here.1

total_fits : (fs : List Factor) (most : ℕ) (at : ℕ → Fault) (t k : ℕ) (ds : List Data) → t ≤ most → dims_fault most at t k ds ≡ None → t + total (map (sector_of fs) ds) ≤ most
total_fits fs most at t k [] le e = omega (arith, le)
total_fits fs most at t k (d ∷ ds) le e =
    let here = none_head (is_dim_out most t (dim_of d)) (at k) (dims_fault most at (t + unsigned_abs (dim_of d)) (k + 1) ds) e in
    omega (arith, total_fits fs most at (t + unsigned_abs (dim_of d)) (k + 1) ds (fits most t (dim_of d) here.0) here.1)

-- what the walk over sectors leaves out
abbrev counted : ℕ → ℕ → List Data → Option Fault
counted tensor part ds = fault_if (length ds == 0 || nat_lt 64 (length ds)) (fault 11 tensor part 0)

abbrev measured : ℕ → ℕ → ℕ → List Data → Option Fault
measured most tensor part ds = dims_fault most (λ k. fault 10 tensor part k) 0 1 ds

abbrev charged : List Factor → ℕ → ℕ → List Data → Option Fault
charged fs tensor part ds = first_bad (has_charge_out fs) (λ k. fault 9 tensor part k) ds

wider : (fs : List Factor) (tensor part : ℕ) (ds : List Data) → sectors_fault fs tensor part 64 ds ≡ None → sectors_fault fs tensor part 1048576 ds ≡ None
wider fs tensor part ds e =
    let all = parts_none (charged fs tensor part ds) (option_or (measured 64 tensor part ds) (counted tensor part ds)) e in
    let later = parts_none (measured 64 tensor part ds) (counted tensor part ds) all.1 in
    ap₂ option_or all.0 (ap₂ option_or (wider_dims 64 1048576 (λ k. fault 10 tensor part k) 0 1 ds (omega arith) later.0) later.1)

-- such sectors are a leg
pub site_leg_accepted : (fs : List Factor) (tensor part : ℕ) (ds : List Data) (e : LegFault) → length fs ≤ 4 → sectors_fault fs tensor part 64 ds ≡ None
    → IsFirstLegFault fs (map (sector_of fs) ds) e → ⊥
site_leg_accepted fs tensor part ds e few none first = leg_accepted fs tensor part ds e few (wider fs tensor part ds none) first

-- which has at most 64 values
pub small : (fs : List Factor) (tensor part : ℕ) (ds : List Data) → sectors_fault fs tensor part 64 ds ≡ None → total (map (sector_of fs) ds) ≤ 64
small fs tensor part ds e =
    let all = parts_none (charged fs tensor part ds) (option_or (measured 64 tensor part ds) (counted tensor part ds)) e in
    let later = parts_none (measured 64 tensor part ds) (counted tensor part ds) all.1 in
    omega (arith, total_fits fs 64 (λ k. fault 10 tensor part k) 0 1 ds (omega arith) later.0)
