-- Entries of the tables of a combiner, read from one list of values.
use Rattle.std.proofs.Common.{◌≡◌, ◌≢◌, ℕ, ℤ, zero, suc, ◌+◌, ◌-◌, ◌^◌, ◌<◌, ◌&&◌, List, [], ◌∷◌, ◌++◌, length, get_or, take, drop, reverse, arith, refl, ap, ap₂, ◌∙◌, sym, subst, ◌⊎◌, inl, inr, Bool, true, false, cond}
use Rattle.std.specs.List.{All}
use Rattle.std.specs.Cmp.Lexicographic.{pointwise}
use Rattle.std.specs.Ordering.{int_eq}
use Rattle.std.specs.Cmp.Rules.{signed_items}
use Rattle.std.proofs.lemmas.Bool.{false≢true}
use Rattle.std.proofs.lemmas.List.{take_all, reverse-append, reverse-reverse}
use Rattle.qn_gauss.specs.Gaussian.{zero_g}
use Rattle.qn_charge.specs.declared.factor.Factor.{Factor}
use Rattle.qn_index.specs.declared.leg.Dir.{Dir}
use Rattle.qn_index.specs.Legs.{LegValue, IsLegOf, total, parity_at, flipped}
use Rattle.qn_charge.specs.Charges.{zero_charge}
use Rattle.qn_charge.specs.Laws.{canonical_zero, within_zero}
use Rattle.qn_index.specs.Extents.{IsWithinLimits}
use Rattle.qn_index.specs.Tuples.{net, IsFlux}
use Rattle.qn_index.specs.Places.{IsValues, sectors_at}
use Rattle.qn_value.specs.Tensors.{Row, TensorValue, IsTensor, IsRow, same_values, entry_at, entry_of}
use Rattle.qn_block.specs.Blocked.{BlockedValue, IsBlocked, MeetFlux, conjugate_legs, tensor_of}
use Rattle.qn_block.specs.Combiners.{fused_sectors, fused_leg, fused_values, stands_at}
use Rattle.qn_block.specs.Tables.{is_inward, odd_inward, matching, fuse_legs, fuse_entry, split_legs, split_entry, split_entry_backwards}
use Rattle.qn_block.proofs.Rows.{differ_from, entry_out}
use Rattle.qn_block.proofs.Lookup.{values_length}
use Rattle.qn_block.proofs.Matching.{stands_same}
use Rattle.qn_block.proofs.Mirror.{conjugate_length, values_back}
use Rattle.qn_block.proofs.Ascending.{in_range_or_not}
use Rattle.qn_block.proofs.Entries.{entry_out_of_range, entry_off_flux}

-- the first of two lists end to end
pub take_front : (n : ℕ) (xs ys : List ℕ) → length xs ≡ n → take n (xs ++ ys) ≡ xs
take_front zero [] ys e = refl
take_front zero (x ∷ xs) ys e = absurd (omega arith)
take_front (suc n) [] ys e = absurd (omega arith)
take_front (suc n) (x ∷ xs) ys e = ap (λ zs. x ∷ zs) (take_front n xs ys (omega arith))

-- ---- the fuse table

-- the values after the first
abbrev pub tail_of : List ℕ → List ℕ
tail_of xs = take (length xs - 1) (drop 1 xs)

pub record IsFuseGiven (fs : List Factor) (ls : List LegValue) (arrow : Dir) (xs : List ℕ) : Type 0 where
  pub some : 0 < length xs
  pub below : get_or xs 0 0 < total (fused_sectors fs ls arrow)
  pub long : length (tail_of xs) ≡ length ls
  pub given : IsValues ls (reverse (tail_of xs))
  pub entry : (same : Bool) → same ≡ stands_at (fused_values fs ls arrow) (get_or xs 0 0) (reverse (tail_of xs)) → matching same (odd_inward fs ls (reverse (tail_of xs))) ≡ fuse_entry fs ls arrow xs

pub fuse_given : (fs : List Factor) (ls : List LegValue) (arrow : Dir) (xs : List ℕ) → IsValues (fuse_legs fs ls arrow) xs → IsFuseGiven fs ls arrow xs
fuse_given fs ls arrow [] h = absurd h
fuse_given fs ls arrow (w ∷ us) h =
    let tail : tail_of (w ∷ us) ≡ us = take_all (length (w ∷ us) - 1) us (omega arith) in
    let back : IsValues ls (reverse us) = values_back ls (reverse us) (subst (IsValues (conjugate_legs ls)) (sym (reverse-reverse us)) h.1) in
    record {
      some = omega arith;
      below = h.0;
      long = ap length tail ∙ (values_length (conjugate_legs ls) us h.1 ∙ conjugate_length ls);
      given = subst (λ ys. IsValues ls (reverse ys)) (sym tail) back;
      entry = λ same e.
          ap₂ matching (e ∙ ap (λ ys. stands_at (fused_values fs ls arrow) w (reverse ys)) tail) (ap (λ ys. odd_inward fs ls (reverse ys)) tail);
    }

-- ---- the split table

pub record IsSplitGiven (ls : List LegValue) (f : LegValue) (xs : List ℕ) : Type 0 where
  pub long : length xs ≡ length ls + 1
  pub below : get_or xs (length ls) 0 < total f.sectors
  pub given : IsValues ls (take (length ls) xs)
  pub whole : xs ≡ take (length ls) xs ++ (get_or xs (length ls) 0 ∷ [])

pub split_given : (ls : List LegValue) (f : LegValue) (xs : List ℕ) → IsValues (ls ++ (f ∷ [])) xs → IsSplitGiven ls f xs
split_given [] f [] h = absurd h
split_given [] f (x ∷ xs) h = record {
  long = ap (λ ys. length (x ∷ ys)) h.1;
  below = h.0;
  given = refl;
  whole = ap (λ ys. x ∷ ys) h.1;
}
split_given (l ∷ ls) f [] h = absurd h
split_given (l ∷ ls) f (x ∷ xs) h =
    let r = split_given ls f xs h.1 in
    record { long = omega (arith, r.long); below = r.below; given = (h.0, r.given); whole = ap (λ ys. x ∷ ys) r.whole }

pub split_read : (fs : List Factor) (ls : List LegValue) (arrow : Dir) (xs : List ℕ) (same : Bool) → IsValues (split_legs fs ls arrow) xs →
    same ≡ stands_at (fused_values fs ls arrow) (get_or xs (length ls) 0) (take (length ls) xs) →
    matching same (is_inward arrow && parity_at fs (fused_sectors fs ls arrow) (get_or xs (length ls) 0)) ≡ split_entry fs ls arrow xs
split_read fs ls arrow xs same h e =
    let r = split_given ls (flipped (fused_leg fs ls arrow)) xs h in
    let w : ℕ = get_or xs (length ls) 0 in
    let vs : List ℕ = take (length ls) xs in
    let back : reverse xs ≡ w ∷ reverse vs = ap reverse r.whole ∙ reverse-append vs (w ∷ []) in
    ap (λ b. matching b (is_inward arrow && parity_at fs (fused_sectors fs ls arrow) w)) (e ∙ ap (stands_at (fused_values fs ls arrow) w) (sym (reverse-reverse vs)))
    ∙ ap (split_entry_backwards fs ls arrow) (sym back)

-- ---- all entries from those in range that meet the flux

entry_off : (fs : List Factor) (ls : List LegValue) (q : List ℤ) (rs : List Row) (xs : List ℕ) → All (IsRow fs ls q) rs → net fs ls (sectors_at ls xs) ≢ q → entry_at rs xs ≡ zero_g
entry_off fs ls q [] xs h n = refl
entry_off fs ls q (r ∷ rs) xs h n =
    let row : IsRow fs ls q r = h 0 r (omega arith) in
    let other : same_values r.values xs ≡ false = differ_from r.values xs (λ e. n (subst (λ ys. net fs ls (sectors_at ls ys) ≡ q) e row.flux)) in
    ap (λ b. cond b r.entry (entry_at rs xs)) other ∙ entry_off fs ls q rs xs (λ k d lt. h (suc k) d (omega arith)) n

pub all_entries : (t : BlockedValue) (u : TensorValue) → IsBlocked t → IsTensor u → t.group ≡ u.group → t.legs ≡ u.legs → t.flux ≡ u.flux →
    ((xs : List ℕ) → MeetFlux t.group t.legs t.flux xs → entry_of (tensor_of t) xs ≡ entry_of u xs) → (xs : List ℕ) → entry_of (tensor_of t) xs ≡ entry_of u xs
all_entries t u h k group legs flux e xs = by (in_range_or_not t.legs xs)
  where
    rows : All (IsRow t.group t.legs t.flux) u.rows
    rows = subst (λ q. All (IsRow t.group t.legs q) u.rows) (sym flux) (subst (λ ls. All (IsRow t.group ls u.flux) u.rows) (sym legs) (subst (λ fs. All (IsRow fs u.legs u.flux) u.rows) (sym group) k.rows))

    on : (b : Bool) → pointwise int_eq (net t.group t.legs (sectors_at t.legs xs)) t.flux ≡ b → IsValues t.legs xs → entry_of (tensor_of t) xs ≡ entry_of u xs
    on true p v = e xs (record { range = v; flux = (signed_items (net t.group t.legs (sectors_at t.legs xs)) t.flux).0 p })
    on false p v =
        let off : net t.group t.legs (sectors_at t.legs xs) ≢ t.flux = λ q. false≢true (sym p ∙ (signed_items (net t.group t.legs (sectors_at t.legs xs)) t.flux).1 q) in
        entry_off_flux t xs h v off ∙ sym (entry_off t.group t.legs t.flux u.rows xs rows off)

    by : IsValues t.legs xs ⊎ (IsValues t.legs xs → ⊥) → entry_of (tensor_of t) xs ≡ entry_of u xs
    by (inl v) = on (pointwise int_eq (net t.group t.legs (sectors_at t.legs xs)) t.flux) refl v
    by (inr n) = entry_out_of_range t xs h n ∙ sym (entry_out t.group t.legs t.flux u.rows xs rows n)

-- what holds of a table's legs and its flux holds of these
pub table_at : (P : List Factor → List LegValue → List ℤ → Type 0) (fs gs hs : List Factor) (ls ms : List LegValue) (q : List ℤ) → fs ≡ hs → gs ≡ hs → ls ≡ ms → q ≡ zero_charge gs → P hs ms (zero_charge hs) → P fs ls q
table_at P fs gs hs ls ms q e f l z p =
    subst (λ ks. P ks ls q) (sym e) (subst (λ ks. P hs ks q) (sym l) (subst (P hs ms) (sym (z ∙ ap zero_charge f)) p))

pub zero_flux : (u : TensorValue) → IsTensor u → IsFlux u.group (zero_charge u.group)
zero_flux u h = record { canonical = canonical_zero u.group h.group; within = within_zero (2 ^ 50) u.group }

-- what is asked of a table's legs and its flux
pub record IsTableOf (u : TensorValue) (fs : List Factor) (ls : List LegValue) (q : List ℤ) : Type 0 where
  pub charges : All (IsLegOf fs) ls
  pub flux : IsFlux fs q
  pub shape : IsWithinLimits fs ls q
  pub range : (xs : List ℕ) → MeetFlux fs ls q xs → IsValues u.legs xs

pub is_table_of : (u : TensorValue) (fs gs : List Factor) (ls : List LegValue) (q : List ℤ) → IsTensor u → IsWithinLimits u.group u.legs (zero_charge u.group) → fs ≡ u.group → gs ≡ u.group → ls ≡ u.legs → q ≡ zero_charge gs → IsTableOf u fs ls q
is_table_of u fs gs ls q h w group group_too legs flux =
    table_at (IsTableOf u) fs gs u.group ls u.legs q group group_too legs flux
    (record {
      charges = h.charges;
      flux = zero_flux u h;
      shape = w;
      range = λ xs m. m.range;
    })

-- ---- what the calls make of the values that are given and of those that are found

pub fuse_made : (fs gs : List Factor) (ls ms : List LegValue) (arrow : Dir) (xs given all : List ℕ) (same odd : Bool) → IsValues (fuse_legs fs ls arrow) xs → gs ≡ fs → ms ≡ ls → given ≡ reverse (tail_of xs) →
    stands_at (fused_values fs ls arrow) (get_or xs 0 0) (take (length ls) all) ≡ true → same ≡ same_values given (take (length ms) all) → odd ≡ odd_inward gs ms given → matching same odd ≡ fuse_entry fs ls arrow xs
fuse_made fs gs ls ms arrow xs given all same odd h group legs is found s o =
    let r = fuse_given fs ls arrow xs h in
    let found_same : same ≡ stands_at (fused_values fs ls arrow) (get_or xs 0 0) (reverse (tail_of xs)) =
    s ∙ (ap (λ (ks : List LegValue). same_values given (take (length ks) all)) legs ∙ (ap (λ ys. same_values ys (take (length ls) all)) is ∙ sym (stands_same (fused_values fs ls arrow) (get_or xs 0 0) (take (length ls) all) (reverse (tail_of xs)) found))) in
    let odd_same : odd ≡ odd_inward fs ls (reverse (tail_of xs)) = o ∙ (ap (λ ks. odd_inward ks ms given) group ∙ (ap (λ ks. odd_inward fs ks given) legs ∙ ap (odd_inward fs ls) is)) in
    ap (matching same) odd_same ∙ r.entry same found_same

pub split_made : (fs gs : List Factor) (ls ms : List LegValue) (f : LegValue) (arrow : Dir) (xs all : List ℕ) (same odd : Bool) → IsValues (split_legs fs ls arrow) xs → gs ≡ fs → ms ≡ ls → f ≡ fused_leg fs ls arrow →
    stands_at (fused_values fs ls arrow) (get_or xs (length ms) 0) (take (length ls) all) ≡ true → same ≡ same_values (take (length ms) xs) (take (length ms) all) →
    odd ≡ (is_inward f.arrow && parity_at gs f.sectors (get_or xs (length ms) 0)) → matching same odd ≡ split_entry fs ls arrow xs
split_made fs gs ls ms f arrow xs all same odd h group legs leg found s o =
    let n : length ms ≡ length ls = ap length legs in
    let there : stands_at (fused_values fs ls arrow) (get_or xs (length ls) 0) (take (length ls) all) ≡ true = subst (λ k. stands_at (fused_values fs ls arrow) (get_or xs k 0) (take (length ls) all) ≡ true) n found in
    let found_same : same ≡ stands_at (fused_values fs ls arrow) (get_or xs (length ls) 0) (take (length ls) xs) =
    s ∙ (ap (λ k. same_values (take k xs) (take k all)) n ∙ sym (stands_same (fused_values fs ls arrow) (get_or xs (length ls) 0) (take (length ls) all) (take (length ls) xs) there)) in
    let odd_same : odd ≡ (is_inward arrow && parity_at fs (fused_sectors fs ls arrow) (get_or xs (length ls) 0)) =
    o ∙ (ap (λ ks. is_inward f.arrow && parity_at ks f.sectors (get_or xs (length ms) 0)) group ∙ (ap (λ (k : LegValue). is_inward k.arrow && parity_at fs k.sectors (get_or xs (length ms) 0)) leg ∙ ap (λ k. is_inward arrow && parity_at fs (fused_sectors fs ls arrow) (get_or xs k 0)) n)) in
    ap (matching same) odd_same ∙ split_read fs ls arrow xs same h found_same
