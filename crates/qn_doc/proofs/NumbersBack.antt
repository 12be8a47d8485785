-- Numbers, charges, sectors and legs that are written are read again, and have no fault.
use Rattle.std.proofs.Common.{◌≡◌, ℕ, zero, suc, ◌+◌, ◌^◌, ◌≤◌, ◌<◌, ℤ, pos, negsuc, unsigned_abs, List, [], ◌∷◌, length, map, true, false, ◌&&◌, ◌==◌, cond, Some, None, refl, sym, ap, ap₂, subst, ◌∙◌, arith}
use Rattle.std.specs.Prelude.{is_some, unwrap_or}
use Rattle.std.specs.List.{All, list_all, position_from, zip}
use Rattle.std.proofs.lemmas.Bool.{lt-ltb, le-ltb, lt-leb, eq-eqb}
use Rattle.std.proofs.lemmas.Int.{ints}
use Rattle.std.proofs.lemmas.List.{length-map}
use Rattle.std.proofs.lemmas.List.Elements.{All-nil, All-cons, All-head, All-tail, All-weaker}
use Rattle.qn_charge.specs.declared.factor.Factor.{Factor}
use Rattle.qn_charge.specs.declared.factor.Factor.TheVariants.{U1, Zn}
use Rattle.qn_charge.specs.Charges.{IsFactor, IsGroup, IsCanonicalPart, IsPartWithin, IsCanonical, IsWithin}
use Rattle.qn_json.specs.Forms.{is_whole}
use Rattle.qn_json.specs.Tree.{whole_of}
use Rattle.qn_parts.specs.Sectors.{is_charge, number_of, numbers, charge_of, is_part_out, first_out}
use Rattle.qn_json.specs.Texts.{count_data, whole_data}
use Rattle.qn_parts.specs.TensorTexts.{charge_data}
use Rattle.qn_doc.proofs.Written.{listed_items, all_back}

-- ---- numbers

pub count_back : (n : ℕ) → n < 2 ^ 63 → whole_of (count_data n) ≡ Some (pos n)
count_back n h = rw (lt-ltb n (2 ^ 63) h) refl

abbrev pub Small : ℤ → Type 0
Small z = unsigned_abs z < 2 ^ 63

pub whole_back : (z : ℤ) → Small z → whole_of (whole_data z) ≡ Some z
whole_back (pos n) h = count_back n h
whole_back (negsuc n) h = refl

pub number_back : (z : ℤ) → Small z → number_of (whole_data z) ≡ z
number_back z h = ap (λ o. unwrap_or o (pos 0)) (whole_back z h)

pub count_number : (n : ℕ) → n < 2 ^ 63 → number_of (count_data n) ≡ pos n
count_number n h = ap (λ o. unwrap_or o (pos 0)) (count_back n h)

pub is_whole_back : (z : ℤ) → Small z → is_whole (whole_data z) ≡ true
is_whole_back z h = ap is_some (whole_back z h)

pub is_count_back : (n : ℕ) → n < 2 ^ 63 → is_whole (count_data n) ≡ true
is_count_back n h = ap is_some (count_back n h)

-- ---- charges

small_part : (f : Factor) (z : ℤ) → IsFactor f → IsCanonicalPart f z → IsPartWithin 1000000000000 f z → Small z
small_part (U1 fermion) z h c w = omega (arith, w)
small_part (Zn n fermion) (pos a) h c w = let low : a < n = omega (arith, ints) in omega (arith, low, h.1)
small_part (Zn n fermion) (negsuc a) h c w = absurd (omega (arith, ints))

pub small_charge : (fs : List Factor) (c : List ℤ) → IsGroup fs → IsCanonical fs c → IsWithin 1000000000000 fs c → All Small c
small_charge [] [] h k w = All-nil Small
small_charge [] (z ∷ zs) h k w = cc
small_charge (f ∷ fs) [] h k w = absurd k
small_charge (f ∷ fs) (z ∷ zs) h k w = All-cons Small z zs (small_part f z h.0 k.0 w.0) (small_charge fs zs h.1 k.1 w.1)

pub is_charge_back : (n : ℕ) (c : List ℤ) → length c ≡ n → All Small c → is_charge n (charge_data c) ≡ true
is_charge_back n c e h =
    ap (λ ds. (length ds == n) && list_all is_whole ds) (listed_items (map whole_data c))
    ∙ ap₂ (λ a b. a && b) (eq-eqb (length (map whole_data c)) n (length-map c whole_data ∙ e))
    (all_back is_whole whole_data c (All-weaker Small (λ z. is_whole (whole_data z) ≡ true) is_whole_back c h))

few_numbers : (c : List ℤ) → length c ≤ 4 → All Small c → numbers (length c) (map whole_data c) ≡ c
few_numbers [] few h = refl
few_numbers (a ∷ []) few h = ap (λ x. x ∷ []) (number_back a (All-head Small a [] h))
few_numbers (a ∷ b ∷ []) few h =
    let t = All-tail Small a (b ∷ []) h in
    ap₂ (λ x y. x ∷ y ∷ []) (number_back a (All-head Small a (b ∷ []) h)) (number_back b (All-head Small b [] t))
few_numbers (a ∷ b ∷ c ∷ []) few h =
    let t = All-tail Small a (b ∷ c ∷ []) h in
    let u = All-tail Small b (c ∷ []) t in
    ap₂ (λ x y. x ∷ y) (number_back a (All-head Small a (b ∷ c ∷ []) h))
    (ap₂ (λ x y. x ∷ y ∷ []) (number_back b (All-head Small b (c ∷ []) t)) (number_back c (All-head Small c [] u)))
few_numbers (a ∷ b ∷ c ∷ d ∷ []) few h =
    let t = All-tail Small a (b ∷ c ∷ d ∷ []) h in
    let u = All-tail Small b (c ∷ d ∷ []) t in
    let v = All-tail Small c (d ∷ []) u in
    ap₂ (λ x y. x ∷ y) (number_back a (All-head Small a (b ∷ c ∷ d ∷ []) h))
    (ap₂ (λ x y. x ∷ y) (number_back b (All-head Small b (c ∷ d ∷ []) t))
    (ap₂ (λ x y. x ∷ y ∷ []) (number_back c (All-head Small c (d ∷ []) u)) (number_back d (All-head Small d [] v))))
few_numbers (a ∷ b ∷ c ∷ d ∷ e ∷ rest) few h = absurd (omega (arith, few))

pub charge_back : (fs : List Factor) (c : List ℤ) → length fs ≤ 4 → length c ≡ length fs → All Small c → charge_of fs (charge_data c) ≡ c
charge_back fs c few e h =
    ap₂ numbers (sym e) (listed_items (map whole_data c)) ∙ few_numbers c (subst (λ n. n ≤ 4) (sym e) few) h

-- ---- ranges

part_not_out : (b : ℕ) (f : Factor) (z : ℤ) → IsCanonicalPart f z → IsPartWithin b f z → is_part_out (pos b) f z ≡ false
part_not_out zero (U1 fermion) (pos n) c w = rw (le-ltb n 0 (omega arith), le-ltb 0 n w) refl
part_not_out (suc m) (U1 fermion) (pos n) c w = rw (le-ltb (suc m) n w) refl
part_not_out zero (U1 fermion) (negsuc k) c w = absurd (omega (arith, w))
part_not_out (suc m) (U1 fermion) (negsuc k) c w = let low : k ≤ m = omega (arith, w) in rw (le-ltb m k low) refl
part_not_out b (Zn n fermion) (pos a) c w = let low : a < n = omega (arith, ints) in rw (le-ltb a 0 (omega arith), lt-leb n a low) refl
part_not_out b (Zn n fermion) (negsuc a) c w = absurd (omega (arith, ints))

none_out : (b : ℕ) (fs : List Factor) (c : List ℤ) (n : ℕ) → IsCanonical fs c → IsWithin b fs c → position_from (λ p. is_part_out (pos b) p.0 p.1) n (zip fs c) ≡ None
none_out b [] c n k w = refl
none_out b (f ∷ fs) [] n k w = refl
none_out b (f ∷ fs) (z ∷ zs) n k w =
    ap (λ o. cond o (Some n) (position_from (λ p. is_part_out (pos b) p.0 p.1) (n + 1) (zip fs zs))) (part_not_out b f z k.0 w.0)
    ∙ none_out b fs zs (n + 1) k.1 w.1

pub first_out_none : (b : ℕ) (fs : List Factor) (c : List ℤ) → IsCanonical fs c → IsWithin b fs c → first_out (pos b) fs c ≡ None
first_out_none b fs c k w = none_out b fs c 0 k w
