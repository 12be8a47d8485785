-- A group without a fault has at most 4 factors.
use Rattle.std.proofs.Common.{◌≡◌, ◌≤◌, List, length, map, Bool, true, false, cond, Some, None, refl, sym, subst}
use Rattle.std.specs.Prelude.{nat_lt}
use Rattle.std.specs.Option.{option_or}
use Rattle.std.proofs.lemmas.Bool.{ltb-false}
use Rattle.std.proofs.lemmas.List.{length-map}
use Rattle.serde_json.specs.Data.{Data}
use Rattle.qn_parts.specs.declared.fault.Fault.{Fault}
use Rattle.qn_parts.specs.Faults.{fault, fault_if, first_of, first_bad}
use Rattle.qn_parts.specs.Groups.{group_fault, modulus_fault, is_odd_fermion, factor_of}
use Rattle.qn_json.proofs.Lists.{parts_none}

not_bad : (b : Bool) (f : Fault) → cond b (Some f) None ≡ None → b ≡ false
not_bad true f e = cc
not_bad false f e = refl

pub few_factors : (ds : List Data) → group_fault ds ≡ None → length (map factor_of ds) ≤ 4
few_factors ds e =
    let first = (parts_none (fault_if (nat_lt 4 (length ds)) (fault 4 0 0 0)) (option_or (first_of modulus_fault ds) (first_bad is_odd_fermion (λ k. fault 6 0 k 0) ds)) e).0 in
    let few : length ds ≤ 4 = ltb-false 4 (length ds) (not_bad (nat_lt 4 (length ds)) (fault 4 0 0 0) first) in
    subst (λ n. n ≤ 4) (sym (length-map ds factor_of)) few
