-- The tables of a combiner as tensors: their rows conserve charge, and no two have the same values.
use Rattle.std.proofs.Common.{◌≡◌, ℕ, ℤ, zero, suc, ◌+◌, ◌<◌, ◌==◌, ◌&&◌, List, [], ◌∷◌, ◌++◌, reverse, cond, arith, refl, ap, ap₂, ◌∙◌, sym, subst, Bool, true, false, eqb-true, eq-eqb}
use Rattle.std.specs.List.{All}
use Rattle.std.proofs.lemmas.Bool.{and_parts, false_from_ne_true}
use Rattle.std.proofs.lemmas.List.{reverse-append, reverse-reverse}
use Rattle.std.proofs.lemmas.List.Elements.{All-nil, All-cons, All-append}
use Rattle.qn_gauss.specs.Gaussian.{zero_g, one_g, signed}
use Rattle.qn_charge.specs.declared.factor.Factor.{Factor}
use Rattle.qn_charge.specs.Charges.{IsGroup, IsCanonical, sum_charge, neg_charge, zero_charge}
use Rattle.qn_charge.specs.Laws.{commutative_charge, neg_is_inverse, canonical_zero}
use Rattle.qn_index.specs.declared.leg.Dir.{Dir}
use Rattle.qn_index.specs.Legs.{LegValue, IsSound, IsLegOf, flipped, total, charge_at, parity_at, sector_of}
use Rattle.qn_index.specs.Tuples.{net, turned}
use Rattle.qn_index.specs.Places.{IsValues, sectors_at}
use Rattle.qn_index.proofs.Admitted.{net_canonical}
use Rattle.qn_index.proofs.Places.{forth}
use Rattle.qn_value.specs.Tensors.{Row, IsTensor, IsRow, IsNew, AreDistinct, same_values, entry_at, entry_of}
use Rattle.qn_value.proofs.Values.{same_values-equal}
use Rattle.qn_block.specs.Blocked.{conjugate_legs}
use Rattle.qn_block.specs.Combiners.{CombinerValue, IsCombiner, fused_sectors, fused_leg, fused_values, stands_at}
use Rattle.qn_block.specs.Tables.{is_inward, odd_inward, matching, fuse_legs, fuse_entry, split_legs, split_entry, split_entry_backwards, numbered, fuse_row, split_row, fuse_tensor, split_tensor, IsMatching}
use Rattle.qn_block.proofs.Rows.{same_from, differ_from}
use Rattle.qn_block.proofs.Lookup.{values_length, sectors_length}
use Rattle.qn_block.proofs.Mirror.{conjugate_all, conjugate_net, conjugate_values, conjugate_sectors, net_snoc, sectors_snoc, values_snoc, signed_flipped}
use Rattle.qn_block.proofs.Matching.{stands_same}
use Rattle.qn_block.proofs.Located.{turned_twice, turned_canonical, matched, match_one, match_some, match_charge, stands_below, values_total}
use Rattle.qn_facts.proofs.Booleans.{same_tests}

-- ---- rows that are numbered

numbered_all : (P : Row → Type 0) (row : ℕ → List ℕ → Row) (n : ℕ) (uss : List (List ℕ)) → ((w : ℕ) (vs : List ℕ) → stands_at uss w vs ≡ true → P (row (n + w) vs)) → All P (numbered row n uss)
numbered_all P row n [] h = All-nil P
numbered_all P row n (us ∷ uss) h =
    All-cons P (row n us) (numbered row (n + 1) uss) (subst (λ m. P (row m us)) (plain n) (h 0 us (same_from us us refl)))
    (numbered_all P row (n + 1) uss (λ w vs e. subst (λ m. P (row m vs)) (one n w) (h (suc w) vs e)))
  where
    plain : (n : ℕ) → n + 0 ≡ n
    plain n = omega arith

    one : (n w : ℕ) → n + suc w ≡ n + 1 + w
    one n w = omega arith

-- rows of other numbers have other values
abbrev AreApart : (ℕ → List ℕ → Row) → Type 0
AreApart row = (w x : ℕ) (vs us : List ℕ) → w < x → same_values (row x us).values (row w vs).values ≡ false

numbered_new : (row : ℕ → List ℕ → Row) (w : ℕ) (vs : List ℕ) (n : ℕ) (uss : List (List ℕ)) → AreApart row → w < n → IsNew (row w vs) (numbered row n uss)
numbered_new row w vs n [] h lt = tt
numbered_new row w vs n (us ∷ uss) h lt = (h w n vs us lt, numbered_new row w vs (n + 1) uss h (omega arith))

numbered_distinct : (row : ℕ → List ℕ → Row) (n : ℕ) (uss : List (List ℕ)) → AreApart row → AreDistinct (numbered row n uss)
numbered_distinct row n [] h = tt
numbered_distinct row n (us ∷ uss) h = (numbered_new row n us (n + 1) uss h (omega arith), numbered_distinct row (n + 1) uss h)

-- ---- entries

-- the rows that have these values are those with number w at values vs
abbrev AreAt : (ℕ → List ℕ → Row) → List ℕ → ℕ → List ℕ → Type 0
AreAt row xs w vs = (n : ℕ) (us : List ℕ) → same_values (row n us).values xs ≡ (n == w) && same_values us vs

none_later : (row : ℕ → List ℕ → Row) (xs : List ℕ) (w : ℕ) (vs : List ℕ) (n : ℕ) (uss : List (List ℕ)) → AreAt row xs w vs → w < n → entry_at (numbered row n uss) xs ≡ zero_g
none_later row xs w vs n [] h lt = refl
none_later row xs w vs n (us ∷ uss) h lt =
    let other : (n == w) ≡ false = false_from_ne_true (n == w) (λ e. let same : n ≡ w = eqb-true n w e in absurd (omega arith)) in
    ap (λ b. cond b (row n us).entry (entry_at (numbered row (n + 1) uss) xs)) (h n us ∙ ap (λ b. b && same_values us vs) other)
    ∙ none_later row xs w vs (n + 1) uss h (omega arith)

entry_numbered : (row : ℕ → List ℕ → Row) (odd : ℕ → List ℕ → Bool) (xs : List ℕ) (w : ℕ) (vs : List ℕ) (n k : ℕ) (uss : List (List ℕ)) → AreAt row xs w vs → ((m : ℕ) (us : List ℕ) → (row m us).entry ≡ signed (odd m us) one_g) → w ≡ n + k →
    entry_at (numbered row n uss) xs ≡ matching (stands_at uss k vs) (odd w vs)
entry_numbered row odd xs w vs n k [] h made e = refl
entry_numbered row odd xs w vs n zero (us ∷ uss) h made e =
    let here : n ≡ w = omega arith in
    ap (λ b. cond b (row n us).entry (entry_at (numbered row (n + 1) uss) xs)) (h n us ∙ ap (λ b. b && same_values us vs) (eq-eqb n w here))
    ∙ by (same_values us vs) refl here
  where
    by : (b : Bool) → same_values us vs ≡ b → n ≡ w → cond b (row n us).entry (entry_at (numbered row (n + 1) uss) xs) ≡ matching b (odd w vs)
    by true s here = made n us ∙ (ap (λ m. signed (odd m us) one_g) here ∙ ap (λ ys. signed (odd w ys) one_g) (same_values-equal us vs s))
    by false s here = none_later row xs w vs (n + 1) uss h (omega arith)
entry_numbered row odd xs w vs n (suc k) (us ∷ uss) h made e =
    let other : (n == w) ≡ false = false_from_ne_true (n == w) (λ q. let same : n ≡ w = eqb-true n w q in absurd (omega arith)) in
    ap (λ b. cond b (row n us).entry (entry_at (numbered row (n + 1) uss) xs)) (h n us ∙ ap (λ b. b && same_values us vs) other)
    ∙ entry_numbered row odd xs w vs (n + 1) k uss h made (omega arith)

none_at_all : (row : ℕ → List ℕ → Row) (xs : List ℕ) (n : ℕ) (uss : List (List ℕ)) → ((m : ℕ) (us : List ℕ) → same_values (row m us).values xs ≡ false) → entry_at (numbered row n uss) xs ≡ zero_g
none_at_all row xs n [] h = refl
none_at_all row xs n (us ∷ uss) h = ap (λ b. cond b (row n us).entry (entry_at (numbered row (n + 1) uss) xs)) (h n us) ∙ none_at_all row xs (n + 1) uss h

back_equal : (us vs : List ℕ) → reverse us ≡ vs → us ≡ reverse vs
back_equal us vs e = sym (reverse-reverse us) ∙ ap reverse e

same_back : (us vs : List ℕ) → same_values (reverse us) vs ≡ same_values us (reverse vs)
same_back us vs =
    same_tests (same_values (reverse us) vs) (same_values us (reverse vs))
    (λ e. same_from us (reverse vs) (back_equal us vs (same_values-equal (reverse us) vs e)))
    (λ e. same_from (reverse us) vs (sym (back_equal vs us (sym (same_values-equal us (reverse vs) e)))))

pub fuse_entries : (c : CombinerValue) (xs : List ℕ) → entry_of (fuse_tensor c) xs ≡ fuse_entry c.group c.legs c.arrow xs
fuse_entries c [] = none_at_all (fuse_row c.group c.legs) [] 0 (fused_values c.group c.legs c.arrow) (λ m us. refl)
fuse_entries c (w ∷ us) =
    entry_numbered (fuse_row c.group c.legs) (λ m vs. odd_inward c.group c.legs vs) (w ∷ us) w (reverse us) 0 w (fused_values c.group c.legs c.arrow)
    (λ n vs. ap (λ b. (n == w) && b) (same_back vs us)) (λ m vs. refl) (omega arith)

-- one value after others
last_of : (us : List ℕ) (x : ℕ) → reverse (us ++ (x ∷ [])) ≡ x ∷ reverse us
last_of us x = reverse-append us (x ∷ [])

first_same : (x y : ℕ) (us vs : List ℕ) → x ∷ us ≡ y ∷ vs → (x ≡ y) × (us ≡ vs)
first_same x y us vs e = (cc, cc)

same_last : (us xs : List ℕ) (x w : ℕ) (vs : List ℕ) → reverse xs ≡ w ∷ vs → same_values (us ++ (x ∷ [])) xs ≡ (x == w) && same_values us (reverse vs)
same_last us xs x w vs e =
    same_tests (same_values (us ++ (x ∷ [])) xs) ((x == w) && same_values us (reverse vs))
    (λ s.
    let p = first_same x w (reverse us) vs (sym (last_of us x) ∙ (ap reverse (same_values-equal (us ++ (x ∷ [])) xs s) ∙ e)) in
    ap₂ ◌&&◌ (eq-eqb x w p.0) (same_from us (reverse vs) (back_equal us vs p.1)))
    (λ s.
    let p = and_parts (x == w) (same_values us (reverse vs)) s in
    let there : reverse us ≡ vs = sym (back_equal vs us (sym (same_values-equal us (reverse vs) p.1))) in
    let whole : reverse (us ++ (x ∷ [])) ≡ reverse xs = last_of us x ∙ (ap₂ ◌∷◌ (eqb-true x w p.0) there ∙ sym e) in
    same_from (us ++ (x ∷ [])) xs (back_equal (us ++ (x ∷ [])) (reverse xs) whole ∙ reverse-reverse xs))

pub split_entries : (c : CombinerValue) (xs : List ℕ) → entry_of (split_tensor c) xs ≡ split_entry c.group c.legs c.arrow xs
split_entries c xs = by (reverse xs) refl
  where
    odd : ℕ → List ℕ → Bool
    odd m us = is_inward c.arrow && parity_at c.group (fused_sectors c.group c.legs c.arrow) m

    by : (ys : List ℕ) → reverse xs ≡ ys → entry_of (split_tensor c) xs ≡ split_entry_backwards c.group c.legs c.arrow ys
    by [] e = none_at_all (split_row c.group c.legs c.arrow) xs 0 (fused_values c.group c.legs c.arrow) (λ m us. differ_from (us ++ (m ∷ [])) xs (λ s. empty_last us m (sym (last_of us m) ∙ (ap reverse s ∙ e))))
      where
        empty_last : (us : List ℕ) (m : ℕ) → m ∷ reverse us ≡ [] → ⊥
        empty_last us m e = cc
    by (w ∷ us) e =
        entry_numbered (split_row c.group c.legs c.arrow) odd xs w (reverse us) 0 w (fused_values c.group c.legs c.arrow)
        (λ n vs. same_last vs xs n w us e) (λ m vs. refl) (omega arith)

-- ---- the tables conserve charge

fuse_apart : (fs : List Factor) (ls : List LegValue) → AreApart (fuse_row fs ls)
fuse_apart fs ls w x vs us lt =
    ap (λ b. b && same_values (reverse us) (reverse vs)) (false_from_ne_true (x == w) (λ e. let same : x ≡ w = eqb-true x w e in absurd (omega arith)))

split_apart : (fs : List Factor) (ls : List LegValue) (arrow : Dir) → AreApart (split_row fs ls arrow)
split_apart fs ls arrow w x vs us lt =
    differ_from (us ++ (x ∷ [])) (vs ++ (w ∷ []))
    (λ e. let p = first_same x w (reverse us) (reverse vs) (sym (last_of us x) ∙ (ap reverse e ∙ last_of vs w)) in absurd (omega (arith, p.0)))

-- the charge of a value of the fused leg, turned by its arrow, is the net charge of the values that match
fused_net : (fs : List Factor) (ls : List LegValue) (arrow : Dir) (w : ℕ) (vs : List ℕ) → IsGroup fs → stands_at (fused_values fs ls arrow) w vs ≡ true → turned fs arrow (charge_at (fused_sectors fs ls arrow) w) ≡ net fs ls (sectors_at ls vs)
fused_net fs ls arrow w vs g h = ap (turned fs arrow) (match_charge fs ls arrow w vs g h) ∙ turned_twice fs arrow (net fs ls (sectors_at ls vs)) g (net_canonical fs ls (sectors_at ls vs) g)

below_total : (fs : List Factor) (ls : List LegValue) (arrow : Dir) (w : ℕ) (vs : List ℕ) → stands_at (fused_values fs ls arrow) w vs ≡ true → w < total (fused_sectors fs ls arrow)
below_total fs ls arrow w vs h = omega (arith, stands_below (fused_values fs ls arrow) w vs h, values_total fs ls arrow)

fuse_is_row : (fs : List Factor) (ls : List LegValue) (arrow : Dir) (w : ℕ) (vs : List ℕ) → IsGroup fs → All (IsLegOf fs) ls → stands_at (fused_values fs ls arrow) w vs ≡ true → IsRow fs (fuse_legs fs ls arrow) (zero_charge fs) (fuse_row fs ls w vs)
fuse_is_row fs ls arrow w vs g own h =
    let v : IsValues ls vs = (matched fs ls arrow w vs g h).values in
    let n : List ℤ = net fs ls (sectors_at ls vs) in
    let back : net fs (conjugate_legs ls) (sectors_at (conjugate_legs ls) (reverse vs)) ≡ neg_charge fs n =
    ap (net fs (conjugate_legs ls)) (conjugate_sectors ls vs (values_length ls vs v)) ∙ conjugate_net fs ls (sectors_at ls vs) g own (forth ls vs v).tuple in
    record {
      range = (below_total fs ls arrow w vs h, conjugate_values ls vs v);
      flux = ap₂ (sum_charge fs) (fused_net fs ls arrow w vs g h) back ∙ (commutative_charge fs n (neg_charge fs n) ∙ neg_is_inverse fs n g);
    }

split_is_row : (fs : List Factor) (ls : List LegValue) (arrow : Dir) (w : ℕ) (vs : List ℕ) → IsGroup fs → stands_at (fused_values fs ls arrow) w vs ≡ true → IsCanonical fs (charge_at (fused_sectors fs ls arrow) w) →
    IsRow fs (split_legs fs ls arrow) (zero_charge fs) (split_row fs ls arrow w vs)
split_is_row fs ls arrow w vs g h k =
    let v : IsValues ls vs = (matched fs ls arrow w vs g h).values in
    let f : LegValue = fused_leg fs ls arrow in
    let n : List ℤ = net fs ls (sectors_at ls vs) in
    let s : ℕ = sector_of (fused_sectors fs ls arrow) w in
    record {
      range = values_snoc ls (flipped f) vs w v (below_total fs ls arrow w vs h);
      flux =
          ap (net fs (split_legs fs ls arrow)) (sectors_snoc ls (flipped f) vs w (values_length ls vs v))
          ∙ (net_snoc fs ls (flipped f) (sectors_at ls vs) s g (sectors_length ls vs v)
          ∙ (ap (sum_charge fs n) (signed_flipped fs f s g k ∙ ap (neg_charge fs) (fused_net fs ls arrow w vs g h))
          ∙ (commutative_charge fs n (neg_charge fs n) ∙ neg_is_inverse fs n g)));
    }

pub fuse_is_tensor : (c : CombinerValue) → IsCombiner c → IsTensor (fuse_tensor c)
fuse_is_tensor c h =
    let fs = c.group in
    let ls = c.legs in
    record {
      group = h.group;
      legs = All-cons IsSound (fused_leg fs ls c.arrow) (conjugate_legs ls) h.fusable.leg (conjugate_all IsSound ls (λ l k. k) h.sound);
      charges = All-cons (IsLegOf fs) (fused_leg fs ls c.arrow) (conjugate_legs ls) h.fusable.charges (conjugate_all (IsLegOf fs) ls (λ l k. k) h.charges);
      flux = canonical_zero fs h.group;
      rows = numbered_all (IsRow fs (fuse_legs fs ls c.arrow) (zero_charge fs)) (fuse_row fs ls) 0 (fused_values fs ls c.arrow)
          (λ w vs e. subst (λ m. IsRow fs (fuse_legs fs ls c.arrow) (zero_charge fs) (fuse_row fs ls m vs)) (plain w) (fuse_is_row fs ls c.arrow w vs h.group h.charges e));
      distinct = numbered_distinct (fuse_row fs ls) 0 (fused_values fs ls c.arrow) (fuse_apart fs ls);
    }
  where
    plain : (w : ℕ) → w ≡ 0 + w
    plain w = omega arith

pub split_is_tensor : (c : CombinerValue) → IsCombiner c → IsTensor (split_tensor c)
split_is_tensor c h =
    let fs = c.group in
    let ls = c.legs in
    let f : LegValue = fused_leg fs ls c.arrow in
    let canonical : (w : ℕ) (vs : List ℕ) → stands_at (fused_values fs ls c.arrow) w vs ≡ true → IsCanonical fs (charge_at (fused_sectors fs ls c.arrow) w) =
    λ w vs e. subst (IsCanonical fs) (sym (match_charge fs ls c.arrow w vs h.group e)) (turned_canonical fs c.arrow (net fs ls (sectors_at ls vs)) h.group (net_canonical fs ls (sectors_at ls vs) h.group)) in
    record {
      group = h.group;
      legs = All-append IsSound ls (flipped f ∷ []) h.sound (All-cons IsSound (flipped f) [] h.fusable.leg (All-nil IsSound));
      charges = All-append (IsLegOf fs) ls (flipped f ∷ []) h.charges (All-cons (IsLegOf fs) (flipped f) [] h.fusable.charges (All-nil (IsLegOf fs)));
      flux = canonical_zero fs h.group;
      rows = numbered_all (IsRow fs (split_legs fs ls c.arrow) (zero_charge fs)) (split_row fs ls c.arrow) 0 (fused_values fs ls c.arrow)
          (λ w vs e. subst (λ m. IsRow fs (split_legs fs ls c.arrow) (zero_charge fs) (split_row fs ls c.arrow m vs)) (plain w) (split_is_row fs ls c.arrow w vs h.group e (canonical w vs e)));
      distinct = numbered_distinct (split_row fs ls c.arrow) 0 (fused_values fs ls c.arrow) (split_apart fs ls c.arrow);
    }
  where
    plain : (w : ℕ) → w ≡ 0 + w
    plain w = omega arith

-- ---- the values that match

pub is_matching : (c : CombinerValue) → IsCombiner c → IsMatching c
is_matching c h = record {
  values = λ w vs e. (matched c.group c.legs c.arrow w vs h.group e).values;
  charge = λ w vs e. match_charge c.group c.legs c.arrow w vs h.group e;
  same = λ w us vs e k. sym (same_values-equal vs us (sym (stands_same (fused_values c.group c.legs c.arrow) w us vs e) ∙ k));
  some = λ vs v. match_some c.group c.legs c.arrow vs h.group v;
  one = λ w x vs e k. match_one c.group c.legs c.arrow w x vs h.group e k;
  long = values_total c.group c.legs c.arrow;
}
