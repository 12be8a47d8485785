-- Arrays that are filled from the front, and places found by their ends.
use Rattle.std.proofs.Common.{◌≡◌, ◌<◌, ◌≤◌, ℕ, zero, suc, ◌+◌, ◌-◌, ℤ, Bool, true, false, ◌&&◌, ◌||◌, reverse, add-one, cond, List, [], ◌∷◌, ◌++◌, length, get_or, take, set, map, refl, sym, ◌∙◌, ap, ap₂, subst, arith}
use Rattle.std.specs.List.{All}
use Rattle.std.proofs.lemmas.Bool.{or_left, or_right, false≢true}
use Rattle.std.proofs.lemmas.List.{length-set, length-append, take_more, take_more_set, take_all, map-append, length-reverse, get_or_append_left}
use Rattle.std.proofs.lemmas.List.Elements.{All-nil, All-cons, All-append}
use Rattle.qn_sign.specs.Sign.{is_in}
use Rattle.qn_charge.specs.declared.factor.Factor.{Factor}
use Rattle.qn_index.specs.Legs.{LegValue, total, parity_at}
use Rattle.qn_index.specs.Places.{IsValues}
use Rattle.qn_value.specs.Networks.{End, same_end}
use Rattle.qn_value.specs.Local.{picked, parities}
use Rattle.qn_value.proofs.NetLaws.{end_test}
use Rattle.qn_block.specs.Combiners.{CombinerValue, IsCombiner, fused_values, fused_leg, stands_at}
use Rattle.qn_block.specs.Tables.{is_inward, odd_inward}
use Rattle.qn_block.proofs.Lookup.{values_length}
use Rattle.qn_block.proofs.OddValues.{backwards_at}
use Rattle.qn_block.proofs.TableRows.{is_matching}
use Rattle.qn_net.specs.Tables.{no_end}
use Rattle.qn_engine.specs.Fusing.{line_ends, end_place, line_places, places_left, IsOrderOf, IsFuseMatch, IsSplitMatch}
use Rattle.qn_engine.proofs.FusedLines.{labels_on}
use Rattle.qn_engine.proofs.FusedTables.{below_total}
use Rattle.qn_engine.proofs.FusedPairs.{left_ends, left_within}

-- an array of this size whose first i places are those of a list
pub record IsFilled {A : Type 0} (size i : ℕ) (array all : List A) : Type 0 where
  pub long : length array ≡ size
  pub first : take i array ≡ take i all

pub filled_more : {A : Type 0} (default : A) (size i : ℕ) (v : A) (array all : List A) → i < size → i < length all → get_or all i default ≡ v → IsFilled size i array all → IsFilled size (i + 1) (set array i v) all
filled_more default size i v array all small lt e h = record {
  long = length-set array i v ∙ h.long;
  first = take_more_set array i v (omega (arith, h.long)) ∙ (ap (λ k. k ++ v ∷ []) h.first ∙ (ap (λ y. take i all ++ y ∷ []) (sym e) ∙ sym (take_more all i default lt)));
}

pub filled_all : {A : Type 0} (size n i : ℕ) (array all : List A) → i ≡ n → length all ≡ n → IsFilled size i array all → take n array ≡ all
filled_all size n i array all e long h = subst (λ k. take k array ≡ take k all) e h.first ∙ take_all n all (omega (arith, long))

-- the place of an end that is there
pub end_there : (e : End) (es : List End) → is_in same_end e es ≡ true → (end_place e es < length es) × (get_or es (end_place e es) no_end ≡ e)
end_there e [] i = absurd (false≢true i)
end_there e (x ∷ es) i = go (same_end e x) refl i (end_there e es)
  where
    go : (b : Bool) → same_end e x ≡ b → (b || is_in same_end e es) ≡ true → (is_in same_end e es ≡ true → (end_place e es < length es) × (get_or es (end_place e es) no_end ≡ e)) →
        (cond b 0 (suc (end_place e es)) < suc (length es)) × (get_or (x ∷ es) (cond b 0 (suc (end_place e es))) no_end ≡ e)
    go true q j ih = (omega arith, sym (end_test.equal e x q))
    go false q j ih = let r = ih j in (omega (arith, r.0), r.1)

pub lines_there : (es : List End) (ls : List ℤ) → ((e : End) → is_in same_end e (line_ends ls) ≡ true → is_in same_end e es ≡ true) →
    All (λ i. i < length es) (line_places es ls) × (picked no_end es (line_places es ls) ≡ line_ends ls)
lines_there es [] h = (All-nil (λ i. i < length es), refl)
lines_there es (l ∷ ls) h =
    let x : End = record { label = l; inward = true } in
    let y : End = record { label = l; inward = false } in
    let a = end_there x es (h x (or_left (same_end x x) (is_in same_end x (y ∷ line_ends ls)) (end_test.itself x))) in
    let b = end_there y es (h y (or_right (same_end y x) (is_in same_end y (y ∷ line_ends ls)) (or_left (same_end y y) (is_in same_end y (line_ends ls)) (end_test.itself y)))) in
    let r = lines_there es ls (λ e i. h e (or_right (same_end e x) (is_in same_end e (y ∷ line_ends ls)) (or_right (same_end e y) (is_in same_end e (line_ends ls)) i))) in (
      All-cons (λ i. i < length es) (end_place x es) (end_place y es ∷ line_places es ls) a.0 (All-cons (λ i. i < length es) (end_place y es) (line_places es ls) b.0 r.0),
      ap₂ ◌∷◌ a.1 (ap₂ ◌∷◌ b.1 r.1),
    )

-- the order of the legs, where both ends of each summed line are among them
pub order_there : (summed : List ℤ) (es : List End) → ((e : End) → is_in same_end e (line_ends summed) ≡ true → is_in same_end e es ≡ true) → IsOrderOf summed es (line_places es summed ++ places_left summed 0 (labels_on es))
order_there summed es h =
    let r = lines_there es summed h in
    record {
      within = All-append (λ i. i < length es) (line_places es summed) (places_left summed 0 (labels_on es)) r.0 (left_within summed (labels_on es) 0 (length es) (many es));
      ends = map-append (λ k. get_or es k no_end) (line_places es summed) (places_left summed 0 (labels_on es)) ∙ ap₂ ◌++◌ r.1 (left_ends summed es);
    }
  where
    many : (fs : List End) → 0 + length (labels_on fs) ≤ length fs
    many [] = omega arith
    many (f ∷ fs) = let m = many fs in omega (arith, m)

pub mapped_at : {A : Type 0} (f : A → ℕ) (xs : List A) (i : ℕ) (e : A) → i < length xs → get_or (map f xs) i 0 ≡ f (get_or xs i e)
mapped_at f [] i e lt = absurd (omega (arith, lt))
mapped_at f (x ∷ xs) zero e lt = refl
mapped_at f (x ∷ xs) (suc i) e lt = mapped_at f xs i e (omega (arith, lt))

pub parities_long : (fs : List Factor) (ls : List LegValue) (xs : List ℕ) → IsValues ls xs → length (parities fs ls xs) ≡ length ls
parities_long fs [] xs h = refl
parities_long fs (l ∷ ls) [] h = absurd h
parities_long fs (l ∷ ls) (x ∷ xs) h = ap suc (parities_long fs ls xs h.1)

pub parity_is : (fs : List Factor) (ls : List LegValue) (xs : List ℕ) (i : ℕ) (l : LegValue) → IsValues ls xs → i < length ls → l ≡ get_or ls i l → get_or (parities fs ls xs) i false ≡ parity_at fs l.sectors (get_or xs i 0)
parity_is fs [] xs i l h lt e = absurd (omega (arith, lt))
parity_is fs (k ∷ ls) [] i l h lt e = absurd h
parity_is fs (k ∷ ls) (x ∷ xs) zero l h lt e = ap (λ (m : LegValue). parity_at fs m.sectors x) (sym e)
parity_is fs (k ∷ ls) (x ∷ xs) (suc i) l h lt e = parity_is fs ls xs i l h.1 (omega (arith, lt)) e

-- values of the fuse table's legs, one after the other

module _ (c : CombinerValue) (hc : IsCombiner c) (v : ℕ) (legs : List LegValue) (all : List ℕ) (same : legs ≡ c.legs) (match : stands_at (fused_values c.group c.legs c.arrow) v (take (length c.legs) all) ≡ true) where
  found_range : IsValues c.legs (take (length c.legs) all)
  found_range = (is_matching c hc).values v (take (length c.legs) all) match

  pub fuse_range : IsValues legs (take (length legs) all)
  fuse_range = subst (λ ls. IsValues ls (take (length ls) all)) (sym same) found_range

  found_long : length (take (length legs) all) ≡ length legs
  found_long = values_length legs (take (length legs) all) fuse_range

  turned_long : length (v ∷ reverse (take (length legs) all)) ≡ length legs + 1
  turned_long = let r : length (reverse (take (length legs) all)) ≡ length (take (length legs) all) = length-reverse (take (length legs) all) in omega (arith, r, found_long)

  few : length legs ≤ 63
  few = subst (λ ls. length ls ≤ 63) (sym same) hc.few

  pub fuse_more : (i : ℕ) (array : List ℕ) → i < length legs → IsFilled 64 (i + 1) array (v ∷ reverse (take (length legs) all)) →
      IsFilled 64 (i + 1 + 1) (set array (i + 1) (get_or (take (length legs) all) (length legs - 1 - i) 0)) (v ∷ reverse (take (length legs) all))
  fuse_more i array lt h =
      filled_more 0 64 (i + 1) (get_or (take (length legs) all) (length legs - 1 - i) 0) array (v ∷ reverse (take (length legs) all)) (omega (arith, lt, few)) (omega (arith, lt, turned_long))
      (ap (λ k. get_or (v ∷ reverse (take (length legs) all)) k 0) (add-one i)
      ∙ (backwards_at (take (length legs) all) i (omega (arith, lt, found_long)) ∙ ap (λ m. get_or (take (length legs) all) (m - 1 - i) 0) found_long)) h

  pub fuse_done : (i : ℕ) (array : List ℕ) (fs : List Factor) (minus : Bool) → length legs ≤ i → i ≤ length legs → IsFilled 64 (i + 1) array (v ∷ reverse (take (length legs) all)) → fs ≡ c.group →
      minus ≡ odd_inward fs legs (take (length legs) all) → IsFuseMatch c (v ∷ []) (take (length c.legs + 1) array) minus
  fuse_done i array fs minus below above h group odd = record {
    value = v;
    found = take (length c.legs) all;
    left_is = refl;
    all = ap (λ (ls : List LegValue). take (length ls + 1) array) (sym same)
        ∙ (filled_all 64 (length legs + 1) (i + 1) array (v ∷ reverse (take (length legs) all)) (omega (arith, below, above)) turned_long h
        ∙ ap (λ (ls : List LegValue). v ∷ reverse (take (length ls) all)) same);
    match = match;
    sign = odd ∙ ap₂ (λ gs (ls : List LegValue). odd_inward gs ls (take (length ls) all)) group same;
  }

-- values of the split table's legs

module _ (c : CombinerValue) (hc : IsCombiner c) (left : List ℕ) (v : ℕ) (legs : List LegValue) (same : legs ≡ c.legs) (range : IsValues c.legs left) (match : stands_at (fused_values c.group c.legs c.arrow) v left ≡ true) where
  pub left_long : length left ≡ length legs
  left_long = values_length c.legs left range ∙ ap (λ (ls : List LegValue). length ls) (sym same)

  few_legs : length legs ≤ 63
  few_legs = subst (λ ls. length ls ≤ 63) (sym same) hc.few

  all_long : length (left ++ (v ∷ [])) ≡ length legs + 1
  all_long = length-append left (v ∷ []) ∙ ap (λ k. k + 1) left_long

  pub split_more : (i : ℕ) (array : List ℕ) → i < length legs → IsFilled 64 i array (left ++ (v ∷ [])) → IsFilled 64 (i + 1) (set array i (get_or left i 0)) (left ++ (v ∷ []))
  split_more i array lt h =
      filled_more 0 64 i (get_or left i 0) array (left ++ (v ∷ [])) (omega (arith, lt, few_legs)) (omega (arith, lt, all_long))
      (get_or_append_left left (v ∷ []) 0 i (omega (arith, lt, left_long))) h

  at_end : (us : List ℕ) (m : ℕ) → m ≡ length us → get_or (us ++ (v ∷ [])) m 0 ≡ v
  at_end [] m e = ap (λ k. get_or (v ∷ []) k 0) e
  at_end (u ∷ us) zero e = absurd (omega (arith, e))
  at_end (u ∷ us) (suc m) e = at_end us m (omega (arith, e))

  pub split_done : (i : ℕ) (array : List ℕ) (fs : List Factor) (f : LegValue) (minus : Bool) → length legs ≤ i → i ≤ length legs → IsFilled 64 i array (left ++ (v ∷ [])) → fs ≡ c.group → f ≡ fused_leg c.group c.legs c.arrow →
      minus ≡ (is_inward f.arrow && parity_at fs f.sectors v) → IsSplitMatch c left (take (length c.legs + 1) (set array (length legs) v)) minus
  split_done i array fs f minus below above h group leg odd = record {
    value = v;
    all = ap (λ (ls : List LegValue). take (length ls + 1) (set array (length legs) v)) (sym same)
        ∙ filled_all 64 (length legs + 1) (length legs + 1) (set array (length legs) v) (left ++ (v ∷ [])) refl all_long
        (filled_more 0 64 (length legs) v array (left ++ (v ∷ [])) (omega (arith, few_legs)) (omega (arith, all_long)) (at_end left (length legs) (sym left_long))
        (subst (λ k. IsFilled 64 k array (left ++ (v ∷ []))) (at_last i below above) h));
    match = match;
    sign = odd ∙ ap₂ (λ gs (k : LegValue). is_inward k.arrow && parity_at gs k.sectors v) group leg;
  }
    where
      at_last : (i : ℕ) → length legs ≤ i → i ≤ length legs → i ≡ length legs
      at_last i b a = omega (arith, a, b)

  pub fused_below : (f : LegValue) → f ≡ fused_leg c.group c.legs c.arrow → v < total f.sectors
  fused_below f e = subst (λ (k : LegValue). v < total k.sectors) (sym e) (below_total c hc v left match)

-- places that are left
pub places_within : (left : List ℕ) (legs : List LegValue) (ls summed : List ℤ) → left ≡ places_left summed 0 ls → length legs ≡ length ls → All (λ k. k < length legs) left
places_within left legs ls summed e n = subst (All (λ k. k < length legs)) (sym e) (left_within summed ls 0 (length legs) (omega (arith, n)))
