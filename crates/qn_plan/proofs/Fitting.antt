-- The groups that a plan makes can be brought together: their legs, their widths and the bounds of their fluxes.
use Rattle.std.proofs.Common.{◌≡◌, ◌≤◌, ◌^◌, ℕ, suc, ◌+◌, ◌*◌, ℤ, Bool, true, false, ◌||◌, cond, List, [], ◌∷◌, ◌++◌, refl, sym, ◌∙◌, ap, subst, map, length, filter, nat_lt, arith}
use Rattle.std.specs.List.{All}
use Rattle.std.proofs.lemmas.Bool.{or_parts}
use Rattle.std.proofs.lemmas.Bool.Decides.{nat_tests}
use Rattle.std.proofs.lemmas.List.Elements.{All-append}
use Rattle.qn_charge.specs.declared.factor.Factor.{Factor}
use Rattle.qn_charge.specs.Charges.{sum_charge, IsCanonical, IsWithin, IsGroup}
use Rattle.qn_charge.specs.Laws.{canonical_sum, canonical_zero, within_more, within_sum}
use Rattle.qn_index.specs.Legs.{SectorValue, LegValue, IsSound, IsLegOf}
use Rattle.qn_index.specs.Tuples.{count, IsFlux}
use Rattle.qn_index.specs.Extents.{entries, IsWithinLimits}
use Rattle.qn_value.specs.Networks.{End, Bond, Parities, labels, kept, IsNetwork}
use Rattle.qn_value.specs.Twists.{HasOneEnd}
use Rattle.qn_value.specs.Blocks.{legs_on}
use Rattle.qn_value.specs.Fluxes.{arrow_of, sum_flux}
use Rattle.qn_value.proofs.BlockRows.{all-cons}
use Rattle.qn_value.proofs.BlocksLemmas.{length-legs}
use Rattle.qn_value.proofs.PlacedLemmas.{all_first, all_others}
use Rattle.qn_match.specs.Pairs.{joined as legs_joined_at}
use Rattle.qn_match.specs.Shares.{LegsLeftAreOpen}
use Rattle.qn_net.specs.Groups.{TensorGroup, Listed, flux_of, merged, place_member, joined, closed}
use Rattle.qn_plan.specs.Shapes.{ShapeValue, shape_of, legs_left, shared_places}
use Rattle.qn_plan.specs.Planned.{is_too_wide}
use Rattle.qn_plan.specs.Conditions.{CanJoin, CanClose}
use Rattle.qn_plan.specs.Reached.{IsFitting, AreFitting, member_count}
use Rattle.qn_plan.proofs.Keeping.{legs_left_on, joined_is, closed_is, flux_joined}
use Rattle.qn_plan.proofs.Sharing.{are_shared, legs_joined}

-- a shape is within the limits or too wide
pub narrow_of : (fs : List Factor) (ls : List LegValue) (q : List ℤ) → is_too_wide fs ls q ≡ false → IsWithinLimits fs ls q
narrow_of fs ls q h =
    let one = or_parts (nat_lt 64 (length ls)) (nat_lt (2 ^ 20) (count ls) || nat_lt (2 ^ 22) (entries fs ls q)) h in
    let two = or_parts (nat_lt (2 ^ 20) (count ls)) (nat_lt (2 ^ 22) (entries fs ls q)) one.1 in
    record { legs = at_most 64 (length ls) one.0; tuples = at_most (2 ^ 20) (count ls) two.0; entries = at_most (2 ^ 22) (entries fs ls q) two.1 }
  where
    at_most : (m n : ℕ) → nat_lt m n ≡ false → n ≤ m
    at_most m n e = grind (arith, nat_tests)

-- lengths of merged lists

placed_length : (m : Listed) (ns : List Listed) → length (place_member m ns) ≡ suc (length ns)
placed_length m [] = refl
placed_length m (n ∷ ns) = go (nat_lt m.number n.number) (placed_length m ns)
  where
    go : (b : Bool) → length (place_member m ns) ≡ suc (length ns) → length (cond b (m ∷ n ∷ ns) (n ∷ place_member m ns)) ≡ suc (suc (length ns))
    go true e = refl
    go false e = ap suc e

pub merged_length : (ms ns : List Listed) → length (merged ms ns) ≡ length ms + length ns
merged_length [] ns = omega arith
merged_length (m ∷ ms) ns = let e : length (merged ms ns) ≡ length ms + length ns = merged_length ms ns in placed_length m (merged ms ns) ∙ omega (arith, e)

pub count-append : (gs hs : List TensorGroup) → member_count (gs ++ hs) ≡ member_count gs + member_count hs
count-append [] hs = omega arith
count-append (g ∷ gs) hs = let e : member_count (gs ++ hs) ≡ member_count gs + member_count hs = count-append gs hs in omega (arith, e)

-- legs that are kept

module _ (sectors : ℤ → List SectorValue) (P : LegValue → Type 0) where
  all_kept : (q : End → Bool) (es : List End) → All P (legs_on sectors es) → All P (legs_on sectors (filter q es))
  all_kept q [] h = h
  all_kept q (e ∷ es) h =
      go (q e) (all_kept q es (all_others P (record { arrow = arrow_of e.inward; sectors = sectors e.label }) (legs_on sectors es) h))
    where
      go : (b : Bool) → All P (legs_on sectors (filter q es)) → All P (legs_on sectors (cond b (e ∷ filter q es) (filter q es)))
      go true k =
          all-cons P (record { arrow = arrow_of e.inward; sectors = sectors e.label }) (legs_on sectors (filter q es))
          (all_first P (record { arrow = arrow_of e.inward; sectors = sectors e.label }) (legs_on sectors es) h) k
      go false k = k

  pub all_left : (summed : List ℤ) (es : List End) → All P (legs_on sectors es) → All P (legs_left summed es (legs_on sectors es))
  all_left summed es h = subst (All P) (sym (legs_left_on sectors summed es)) (all_kept _ es h)

  pub all_joined : (summed : List ℤ) (es ds : List End) → All P (legs_on sectors es) → All P (legs_on sectors ds) →
      All P (legs_left summed es (legs_on sectors es) ++ legs_left summed ds (legs_on sectors ds))
  all_joined summed es ds h k = All-append P (legs_left summed es (legs_on sectors es)) (legs_left summed ds (legs_on sectors ds)) (all_left summed es h) (all_left summed ds k)

module _ (fs : List Factor) (group : IsGroup fs) (sectors : ℤ → List SectorValue) where
  canonical_flux : (qs : List (List ℤ)) → IsCanonical fs (sum_flux fs qs)
  canonical_flux [] = canonical_zero fs group
  canonical_flux (q ∷ qs) = canonical_sum fs q (sum_flux fs qs) group

  pub flux_canonical : (g : TensorGroup) → IsCanonical fs (flux_of fs g)
  flux_canonical g = canonical_flux (map (λ m. m.flux) g.members)

  pub flux_is : (g : TensorGroup) → IsFitting fs sectors g → length g.members ≤ 256 → IsFlux fs (flux_of fs g)
  flux_is g h few = record { canonical = flux_canonical g; within = within_more (length g.members * 2 ^ 41) (2 ^ 50) fs (flux_of fs g) (omega (arith, few)) h.flux }

  -- two groups
  module _ (g h : TensorGroup) (fg : IsFitting fs sectors g) (fh : IsFitting fs sectors h) (few : length g.members + length h.members ≤ 256) where
    sum_within : (bound : ℕ) → (length g.members * 2 ^ 41) + (length h.members * 2 ^ 41) ≤ bound → IsWithin bound fs (sum_charge fs (flux_of fs g) (flux_of fs h))
    sum_within bound le =
        within_more ((length g.members * 2 ^ 41) + (length h.members * 2 ^ 41)) bound fs (sum_charge fs (flux_of fs g) (flux_of fs h)) le
        (within_sum (length g.members * 2 ^ 41) (length h.members * 2 ^ 41) fs (flux_of fs g) (flux_of fs h) fg.flux fh.flux)

    flux_sum : IsFlux fs (sum_charge fs (flux_of fs g) (flux_of fs h))
    flux_sum = record { canonical = canonical_sum fs (flux_of fs g) (flux_of fs h) group; within = sum_within (2 ^ 50) (omega (arith, few)) }

    pub can_join : LegsLeftAreOpen → (bonds : List Bond) → HasOneEnd (λ e. true) g.node bonds → HasOneEnd (λ e. true) h.node bonds →
        IsNetwork (g.node ∷ h.node ∷ []) bonds (kept (g.node ∷ h.node ∷ []) bonds) → CanJoin fs (shape_of fs sectors g) (shape_of fs sectors h) (labels bonds)
    can_join law bonds og oh net = record {
      first = sym (length-legs sectors g.node.ends);
      second = sym (length-legs sectors h.node.ends);
      added = record { first = flux_canonical g; second = flux_canonical h; within = sum_within (2 ^ 62) (omega (arith, few)) };
      measured = record { charges = all_joined sectors (IsLegOf fs) (labels bonds) g.node.ends h.node.ends fg.charges fh.charges; flux = flux_sum };
      cost = λ narrow. record {
        first = record { charges = fg.charges; flux = flux_is g fg (omega (arith, few)); limits = fg.narrow };
        second = record { charges = fh.charges; flux = flux_is h fh (omega (arith, few)); limits = fh.narrow };
        pair = record {
          legs = are_shared fs group sectors g.node h.node (flux_of fs g) (flux_of fs h) bonds fg.sound fg.charges (flux_canonical g) fh.sound fh.charges (flux_canonical h) og oh net;
          flux = flux_sum;
          width = subst (λ ls. IsWithinLimits fs ls (sum_charge fs (flux_of fs g) (flux_of fs h))) legs (narrow_of fs _ (sum_charge fs (flux_of fs g) (flux_of fs h)) narrow);
        };
      };
    }
      where
        legs : legs_left (labels bonds) g.node.ends (legs_on sectors g.node.ends) ++ legs_left (labels bonds) h.node.ends (legs_on sectors h.node.ends)
            ≡ legs_joined_at (shared_places g.node.ends h.node.ends (labels bonds)) (legs_on sectors g.node.ends) (legs_on sectors h.node.ends)
        legs =
            ap (λ (s : ShapeValue). s.legs) (joined_is fs group sectors (λ l v. false) false g h bonds)
            ∙ sym (legs_joined fs group sectors g.node h.node (flux_of fs g) (flux_of fs h) bonds fg.sound fg.charges (flux_canonical g) fh.sound fh.charges (flux_canonical h) og oh net law)

    pub fit_joined : (par : Parities) (b : Bool) (bonds : List Bond) → is_too_wide fs (shape_of fs sectors (joined par b g h bonds)).legs (flux_of fs (joined par b g h bonds)) ≡ false →
        IsFitting fs sectors (joined par b g h bonds)
    fit_joined par b bonds narrow = record {
      sound = subst (λ (s : ShapeValue). All IsSound s.legs) (joined_is fs group sectors par b g h bonds) (all_joined sectors IsSound (labels bonds) g.node.ends h.node.ends fg.sound fh.sound);
      charges = subst (λ (s : ShapeValue). All (IsLegOf fs) s.legs) (joined_is fs group sectors par b g h bonds) (all_joined sectors (IsLegOf fs) (labels bonds) g.node.ends h.node.ends fg.charges fh.charges);
      flux = subst (IsWithin (length (merged g.members h.members) * 2 ^ 41) fs) (flux_joined fs group sectors g h) (sum_within (length (merged g.members h.members) * 2 ^ 41) (le (length (merged g.members h.members)) (merged_length g.members h.members)));
      narrow = narrow_of fs _ (flux_of fs (joined par b g h bonds)) narrow;
    }
      where
        le : (n : ℕ) → n ≡ length g.members + length h.members → (length g.members * 2 ^ 41) + (length h.members * 2 ^ 41) ≤ n * 2 ^ 41
        le n e = omega (arith, e)

  -- one group
  module _ (g : TensorGroup) (fg : IsFitting fs sectors g) (few : length g.members ≤ 256) where
    pub can_close : (bonds : List Bond) → CanClose fs (shape_of fs sectors g) (labels bonds)
    can_close bonds = record {
      ends = sym (length-legs sectors g.node.ends);
      measured = record { charges = all_left sectors (IsLegOf fs) (labels bonds) g.node.ends fg.charges; flux = flux_is g fg few };
    }

    pub fit_closed : (par : Parities) (bonds : List Bond) → is_too_wide fs (shape_of fs sectors (closed par g bonds)).legs (flux_of fs (closed par g bonds)) ≡ false →
        IsFitting fs sectors (closed par g bonds)
    fit_closed par bonds narrow = record {
      sound = subst (λ (s : ShapeValue). All IsSound s.legs) (closed_is fs group sectors par g bonds) (all_left sectors IsSound (labels bonds) g.node.ends fg.sound);
      charges = subst (λ (s : ShapeValue). All (IsLegOf fs) s.legs) (closed_is fs group sectors par g bonds) (all_left sectors (IsLegOf fs) (labels bonds) g.node.ends fg.charges);
      flux = fg.flux;
      narrow = narrow_of fs _ (flux_of fs (closed par g bonds)) narrow;
    }

  -- groups side by side
  pub fit_first : (gs hs : List TensorGroup) → AreFitting fs sectors (gs ++ hs) → AreFitting fs sectors gs
  fit_first [] hs k = tt
  fit_first (g ∷ gs) hs k = (k.0, fit_first gs hs k.1)

  pub fit_second : (gs hs : List TensorGroup) → AreFitting fs sectors (gs ++ hs) → AreFitting fs sectors hs
  fit_second [] hs k = k
  fit_second (g ∷ gs) hs k = fit_second gs hs k.1

  pub fit-append : (gs hs : List TensorGroup) → AreFitting fs sectors gs → AreFitting fs sectors hs → AreFitting fs sectors (gs ++ hs)
  fit-append [] hs k l = l
  fit-append (g ∷ gs) hs k l = (k.0, fit-append gs hs k.1 l)
