-- What a walk over the dimensions that finds nothing says of each.
use Rattle.std.proofs.Common.{◌≡◌, ℕ, ◌+◌, List, [], ◌∷◌, Bool, true, false, ◌||◌, Option, Some, None, cond, refl}
use Rattle.std.specs.Prelude.{unsigned_abs, length, ◌==◌, nat_lt}
use Rattle.std.specs.Option.{option_or}
use Rattle.qn_charge.specs.declared.factor.Factor.{Factor}
use Rattle.qn_parts.specs.Faults.{fault, fault_if, first_bad}
use Rattle.std.specs.List.{list_any}
use Rattle.serde_json.specs.Data.{Data}
use Rattle.qn_parts.specs.declared.fault.Fault.{Fault}
use Rattle.qn_parts.specs.Sectors.{dim_of, has_dim_out, has_charge_out, is_dim_out, dims_fault, sectors_fault}
use Rattle.qn_json.proofs.Lists.{or_false, parts_none}

stopped : (b : Bool) (f : Fault) (rest : Option Fault) → cond b (Some f) rest ≡ None → (b ≡ false) × (rest ≡ None)
stopped true f rest e = cc
stopped false f rest e = (refl, e)

pub dims_in : (most : ℕ) (at : ℕ → Fault) (total k : ℕ) (ds : List Data) → dims_fault most at total k ds ≡ None → list_any has_dim_out ds ≡ false
dims_in most at total k [] e = refl
dims_in most at total k (d ∷ ds) e =
    let here = stopped (is_dim_out most total (dim_of d)) (at k) _ e in
    let inside = (or_false (has_dim_out d) _ here.0).0 in
    rw inside (dims_in most at (total + unsigned_abs (dim_of d)) (k + 1) ds here.1)

-- sectors without a fault have dimensions in range
pub dims_right : (group : List Factor) (number place most : ℕ) (ds : List Data) → sectors_fault group number place most ds ≡ None → list_any has_dim_out ds ≡ false
dims_right group number place most ds e =
    let dims = dims_fault most (λ k. fault 10 number place k) 0 1 ds in
    let count = fault_if (length ds == 0 || nat_lt 64 (length ds)) (fault 11 number place 0) in
    let later = (parts_none (first_bad (has_charge_out group) (λ k. fault 9 number place k) ds) (option_or dims count) e).1 in
    dims_in most (λ k. fault 10 number place k) 0 1 ds (parts_none dims count later).0
