-- Groups that are written are read again, and have no fault.
use Rattle.std.proofs.Common.{◌≡◌, ℕ, ◌%◌, ◌≤◌, List, [], ◌∷◌, length, map, true, false, ◌==◌, None, refl, ap, ◌∙◌, arith}
use Rattle.std.specs.Prelude.{nat_lt}
use Rattle.std.specs.List.{All, list_all}
use Rattle.std.proofs.lemmas.Bool.{le-ltb}
use Rattle.std.proofs.lemmas.List.{length-map}
use Rattle.std.proofs.lemmas.List.Elements.{All-nil, All-cons, All-weaker}
use Rattle.qn_charge.specs.declared.factor.Factor.{Factor}
use Rattle.qn_charge.specs.declared.factor.Factor.TheVariants.{U1, Zn}
use Rattle.qn_charge.specs.Charges.{IsFactor, IsGroup}
use Rattle.qn_parts.specs.Faults.{fault, fault_if, first_of}
use Rattle.qn_parts.specs.Groups.{is_factor, is_group, factor_of, has_bad_modulus, is_odd_fermion, modulus_fault, group_fault}
use Rattle.qn_json.specs.Texts.{list_data}
use Rattle.qn_parts.specs.TensorTexts.{factor_data}
use Rattle.qn_doc.proofs.Written.{listed_items, all_back, map_back, first_bad_none, first_from_none}
use Rattle.qn_doc.proofs.NumbersBack.{count_back}

factors_of_group : (fs : List Factor) → IsGroup fs → All IsFactor fs
factors_of_group [] h = All-nil IsFactor
factors_of_group (f ∷ fs) h = All-cons IsFactor f fs h.0 (factors_of_group fs h.1)

is_factor_back : (f : Factor) → IsFactor f → is_factor (factor_data f) ≡ true
is_factor_back (U1 fermion) h = refl
is_factor_back (Zn n fermion) h = rw (count_back n (omega (arith, h.1))) refl

factor_back : (f : Factor) → IsFactor f → factor_of (factor_data f) ≡ f
factor_back (U1 fermion) h = refl
factor_back (Zn n fermion) h = rw (count_back n (omega (arith, h.1))) refl

not_bad : (f : Factor) → IsFactor f → has_bad_modulus (factor_data f) ≡ false
not_bad (U1 fermion) h = refl
not_bad (Zn n fermion) h = rw (count_back n (omega (arith, h.1)), le-ltb n 2 h.0, le-ltb 1000 n h.1) refl

even : (n : ℕ) → n % 2 ≡ 0 → (n % 2 == 1) ≡ false
even n e = ap (λ k. k == 1) e

not_odd : (f : Factor) → IsFactor f → is_odd_fermion (factor_data f) ≡ false
not_odd (U1 fermion) h = refl
not_odd (Zn n true) h = rw (count_back n (omega (arith, h.1)), even n (h.2 refl)) refl
not_odd (Zn n false) h = refl

pub is_group_back : (fs : List Factor) → IsGroup fs → is_group (list_data (map factor_data fs)) ≡ true
is_group_back fs h =
    ap (list_all is_factor) (listed_items (map factor_data fs))
    ∙ all_back is_factor factor_data fs (All-weaker IsFactor (λ f. is_factor (factor_data f) ≡ true) is_factor_back fs (factors_of_group fs h))

pub group_back : (fs : List Factor) → IsGroup fs → map factor_of (map factor_data fs) ≡ fs
group_back fs h = map_back factor_of factor_data fs (All-weaker IsFactor (λ f. factor_of (factor_data f) ≡ f) factor_back fs (factors_of_group fs h))

pub group_sound : (fs : List Factor) → IsGroup fs → length fs ≤ 4 → group_fault (map factor_data fs) ≡ None
group_sound fs h few =
    let each = factors_of_group fs h in
    let moduli : first_of modulus_fault (map factor_data fs) ≡ None =
    first_from_none modulus_fault factor_data 1 fs
    (All-weaker IsFactor (λ f. (k : ℕ) → modulus_fault k (factor_data f) ≡ None) (λ f g k. ap (λ b. fault_if b (fault 5 0 k 0)) (not_bad f g)) fs each) in
    let odd = first_bad_none is_odd_fermion (λ k. fault 6 0 k 0) factor_data fs (All-weaker IsFactor (λ f. is_odd_fermion (factor_data f) ≡ false) not_odd fs each) in
    let count : nat_lt 4 (length (map factor_data fs)) ≡ false = le-ltb 4 (length (map factor_data fs)) (omega (arith, few, length-map fs factor_data)) in
    rw (count, moduli, odd) refl
