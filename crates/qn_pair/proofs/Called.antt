-- The call: what its parts ask for, and what they say of the contraction.
use Rattle.std.proofs.Common.{◌≡◌, ◌≤◌, ◌<◌, ◌^◌, ℕ, suc, ◌+◌, ℤ, Bool, ◌&&◌, List, [], ◌∷◌, ◌++◌, refl, sym, ◌∙◌, ap, ap₂, subst, map, length, get_or, append-nil, ◌⊎◌, inl, inr, arith}
use Rattle.std.specs.List.{All}
use Rattle.std.proofs.lemmas.List.{length-append}
use Rattle.std.proofs.lemmas.List.Elements.{All-append, All-map}
use Rattle.qn_sign.specs.Positions.{IsOrder}
use Rattle.qn_sign.proofs.Positions.{orders_are_permutations}
use Rattle.qn_gauss.specs.Gaussian.{signed}
use Rattle.qn_charge.specs.declared.factor.Factor.{Factor}
use Rattle.qn_charge.specs.Charges.{IsCanonical, IsWithin, zero_charge, sum_charge, parity}
use Rattle.qn_charge.specs.Laws.{zero_is_neutral, commutative_charge}
use Rattle.qn_index.specs.Legs.{LegValue, IsSound, IsLegOf}
use Rattle.qn_index.specs.Tuples.{net}
use Rattle.qn_index.specs.Places.{IsValues, sectors_at}
use Rattle.qn_index.specs.Extents.{IsWithinLimits}
use Rattle.qn_value.specs.Tensors.{BlockValue, IsBlock, AreAscending, entry_of, entry_in}
use Rattle.qn_value.specs.Local.{no_leg, picked, IsCouple, IsCoupling, Pairwise, pair_entry}
use Rattle.qn_value.specs.Fluxes.{sum_flux}
use Rattle.qn_value.proofs.NetLaws.{signed-zero}
use Rattle.qn_value.proofs.OpenLegs.{off_flux}
use Rattle.qn_value.proofs.CoupledLemmas.{leg_at}
use Rattle.qn_block.specs.Blocked.{BlockedValue, IsBlocked, MeetFlux, tensor_of}
use Rattle.qn_block.proofs.Entries.{by_blocks, entry_off_flux, is_tensor}
use Rattle.qn_block.proofs.Lookup.{values_length}
use Rattle.qn_match.specs.Pairs.{IsPair}
use Rattle.qn_strides.specs.Strides.{goal_couples, open_places, goal_places}
use Rattle.qn_strides.proofs.Goal.{perm_goal}
use Rattle.qn_strides.proofs.Lines.{all_within, open_within}
use Rattle.qn_strides.proofs.Charged.{charge_or_not}
use Rattle.qn_kernel.specs.Sources.{couples_of, IsFrame}
use Rattle.qn_pair.specs.Steps.{result_legs, result_flux, IsEntry}
use Rattle.qn_pair.proofs.Words.{coupling, legs_left, result_is}
pub use Rattle.qn_match.proofs.Conditions.{are_added}
use Rattle.qn_strides.proofs.Counts.{append_long}

-- ---- the frame

couples_twice : (ls : List LegValue) (cs : List (ℕ × ℕ)) → length cs + length cs ≤ length (goal_couples ls cs)
couples_twice ls [] = omega arith
couples_twice ls (c ∷ cs) = omega (arith, couples_twice ls cs)

-- there are at most half as many couples as legs
few_twice : (ls : List LegValue) (cs : List (ℕ × ℕ)) → IsCoupling ls cs → length cs + length cs ≤ length ls
few_twice ls cs good =
    let o : IsOrder (length ls) (goal_places ls cs) = (orders_are_permutations (length ls) (goal_places ls cs)).0 (perm_goal ls cs good) in
    omega (arith, couples_twice ls cs, append_long (goal_couples ls cs) (open_places cs (length ls)), o.count)

length_mapped : {A B : Type 0} (f : A → B) (xs : List A) → length (map f xs) ≡ length xs
length_mapped f [] = refl
length_mapped f (x ∷ xs) = ap suc (length_mapped f xs)

-- the lists that the call makes of its legs
pub record IsFramed (a b : BlockedValue) (ps : List (ℕ × ℕ)) (word : List LegValue) (cs : List (ℕ × ℕ)) (places goal : List ℕ) (left : List LegValue) : Type 0 where
  pub couples : All (IsCouple word) cs
  pub within : All (λ k. k < length word) places
  pub frame : IsFrame a.legs b.legs ps word goal places left
  pub left_is : left ≡ result_legs a b ps

pub framed : (a b : BlockedValue) (ps : List (ℕ × ℕ)) (word : List LegValue) (cs : List (ℕ × ℕ)) (places goal : List ℕ) (left : List LegValue) → IsBlocked a → IsBlocked b → IsPair a b ps →
    word ≡ a.legs ++ b.legs → cs ≡ couples_of (length a.legs) ps → places ≡ open_places cs (length word) → goal ≡ goal_places word cs → left ≡ picked no_leg word places → IsFramed a b ps word cs places goal left
framed a b ps word cs places goal left ha hb pair e1 e2 e3 e4 e5 = record {
  couples = subst (λ w. All (IsCouple w) cs) (sym e1) (subst (λ ds. All (IsCouple (a.legs ++ b.legs)) ds) (sym e2) good.meet);
  within = subst (λ is. All (λ k. k < length word) is) (sym e3) (all_within (length word) (open_places cs (length word)) (open_within word cs));
  frame = record {
    coupling = good;
    first = pair.shapes.legs.first;
    second = pair.shapes.legs.second;
    word_is = e1;
    goal_is = e4 ∙ ap₂ goal_places e1 e2;
    places_is = places_are;
    count = sym (ap (λ (ls : List LegValue). length ls) e5 ∙ length_mapped (λ k. get_or word k no_leg) places);
    few_left = omega (arith, ap (λ (ls : List LegValue). length ls) (left_are ∙ result_is a b ps ∙ legs_left a.legs b.legs ps pair.shapes.legs), pair.shapes.width.legs);
    few_shared = omega (arith, few_twice (a.legs ++ b.legs) (couples_of (length a.legs) ps) good, couples_long, length-append a.legs b.legs, ha.shape.legs, hb.shape.legs);
  };
  left_is = left_are;
}
  where
    good : IsCoupling (a.legs ++ b.legs) (couples_of (length a.legs) ps)
    good = coupling a.legs b.legs ps pair.shapes.legs

    places_are : places ≡ open_places (couples_of (length a.legs) ps) (length (a.legs ++ b.legs))
    places_are = e3 ∙ (λ i. open_places (e2 i) (length (e1 i)))

    couples_long : length (couples_of (length a.legs) ps) ≡ length ps
    couples_long = length_mapped shift ps
      where
        shift : ℕ × ℕ → ℕ × ℕ
        shift p = (p.0, length a.legs + p.1)

    left_are : left ≡ result_legs a b ps
    left_are = e5 ∙ ap₂ (picked no_leg) e1 places_are ∙ sym (result_is a b ps)

-- ---- the result

-- what holds of the legs of both tensors holds of those that are left
left_have : (P : LegValue → Type 0) (a b : BlockedValue) (ps : List (ℕ × ℕ)) → IsPair a b ps → All P a.legs → All P b.legs → All P (result_legs a b ps)
left_have P a b ps pair ha hb =
    subst (λ (ls : List LegValue). All P ls) (sym (result_is a b ps))
    (All-map P (leg_at (a.legs ++ b.legs)) (open_places (couples_of (length a.legs) ps) (length (a.legs ++ b.legs)))
    (λ k d l. All-append P a.legs b.legs ha hb (get_or (open_places (couples_of (length a.legs) ps) (length (a.legs ++ b.legs))) k d) no_leg
    (all_within (length (a.legs ++ b.legs)) (open_places (couples_of (length a.legs) ps) (length (a.legs ++ b.legs))) (open_within (a.legs ++ b.legs) (couples_of (length a.legs) ps)) k d l)))

-- the result by its parts
abbrev pub of_parts : List Factor → List LegValue → List ℤ → List BlockValue → BlockedValue
of_parts fs ls q bs = record { group = fs; legs = ls; flux = q; blocks = bs }

pub blocked_result : (a b : BlockedValue) (ps : List (ℕ × ℕ)) → IsBlocked a → IsBlocked b → IsPair a b ps → (fs : List Factor) (ls ks : List LegValue) (q : List ℤ) (bs : List BlockValue) → fs ≡ a.group → ls ≡ ks → ks ≡ result_legs a b ps → q ≡ result_flux a b →
    All (IsBlock a.group ks (result_flux a b)) bs → AreAscending bs → IsBlocked (of_parts fs ls q bs)
blocked_result a b ps ha hb pair fs ls ks q bs e1 e2 e3 e4 blocks rises =
    subst IsBlocked (sym (λ i. of_parts (e1 i) ((e2 ∙ e3) i) (e4 i) bs)) record {
      group = ha.group;
      sound = left_have IsSound a b ps pair ha.sound hb.sound;
      charges = left_have (IsLegOf a.group) a b ps pair ha.charges (subst (λ gs. All (IsLegOf gs) b.legs) (sym pair.group) hb.charges);
      flux = pair.shapes.flux;
      shape = subst (λ gs. IsWithinLimits a.group gs (result_flux a b)) (sym (result_is a b ps ∙ legs_left a.legs b.legs ps pair.shapes.legs)) pair.shapes.width;
      blocks = subst (λ gs. All (IsBlock a.group gs (result_flux a b)) bs) e3 blocks;
      ascending = rises;
    }

flux_sum : (a b : BlockedValue) → IsBlocked b → a.group ≡ b.group → sum_flux a.group (a.flux ∷ b.flux ∷ []) ≡ result_flux a b
flux_sum a b hb e =
    ap (sum_charge a.group a.flux) (commutative_charge a.group b.flux (zero_charge a.group) ∙ zero_is_neutral a.group b.flux (subst (λ gs. IsCanonical gs b.flux) (sym e) hb.flux.canonical))

-- blocks with the right entries at the values that meet the flux make the contraction
pub pairwise_is : (a b r : BlockedValue) (ps : List (ℕ × ℕ)) (between : Bool) → IsBlocked a → IsBlocked b → IsBlocked r → IsPair a b ps → r.group ≡ a.group → r.legs ≡ result_legs a b ps → r.flux ≡ result_flux a b →
    ((xs : List ℕ) → MeetFlux a.group (result_legs a b ps) (result_flux a b) xs → IsEntry a b ps between xs (entry_in (result_legs a b ps) r.blocks xs)) → Pairwise (tensor_of a) (tensor_of b) ps between (tensor_of r)
pairwise_is a b r ps between ha hb hr pair group legs flux entries = record {
  group = group;
  legs = legs;
  flux = flux;
  entries = λ xs v. at xs v (charge_or_not (net r.group r.legs (sectors_at r.legs xs)) r.flux);
}
  where
    at : (xs : List ℕ) → IsValues r.legs xs → (net r.group r.legs (sectors_at r.legs xs) ≡ r.flux) ⊎ (net r.group r.legs (sectors_at r.legs xs) ≡ r.flux → ⊥) → entry_of (tensor_of r) xs ≡ pair_entry (tensor_of a) (tensor_of b) ps between xs
    at xs v (inl e) =
        by_blocks r xs hr v
        ∙ ap (λ gs. entry_in gs r.blocks xs) legs
        ∙ sym (entries xs (record {
          range = subst (λ gs. IsValues gs xs) legs v;
          flux = (λ i. net (sym group i) (sym legs i) (sectors_at (sym legs i) xs)) ∙ e ∙ flux;
        }))
    at xs v (inr n) =
        entry_off_flux r xs hr v n
        ∙ sym (ap (signed (between && parity b.group b.flux))
        (off_flux a.group (tensor_of a ∷ tensor_of b ∷ []) (couples_of (length a.legs) ps) ha.group (refl, is_tensor a ha, (sym pair.group, is_tensor b hb, tt))
        (subst (λ gs. IsCoupling (a.legs ++ gs) (couples_of (length a.legs) ps)) (sym (append-nil b.legs)) (coupling a.legs b.legs ps pair.shapes.legs)) xs
        (values_length r.legs xs v ∙ ap (λ (gs : List LegValue). length gs) legs)
        (λ e. n ((λ i. net (group i) (legs i) (sectors_at (legs i) xs)) ∙ e ∙ flux_sum a b hb pair.group ∙ sym flux))).0
        ∙ signed-zero (between && parity b.group b.flux))

pub called : (a b : BlockedValue) (ps : List (ℕ × ℕ)) (between : Bool) → IsBlocked a → IsBlocked b → IsPair a b ps → (fs : List Factor) (ls ks : List LegValue) (q : List ℤ) (bs : List BlockValue) (r : BlockedValue) → fs ≡ a.group → ls ≡ ks → ks ≡ result_legs a b ps → q ≡ result_flux a b →
    All (IsBlock a.group ks (result_flux a b)) bs → AreAscending bs → ((xs : List ℕ) → MeetFlux a.group ks (result_flux a b) xs → IsEntry a b ps between xs (entry_in ks bs xs)) → r ≡ of_parts fs ls q bs →
    Pairwise (tensor_of a) (tensor_of b) ps between (tensor_of r)
called a b ps between ha hb pair fs ls ks q bs r e1 e2 e3 e4 blocks rises entries er =
    subst (λ s. Pairwise (tensor_of a) (tensor_of b) ps between (tensor_of s)) (sym er)
    (pairwise_is a b (of_parts fs ls q bs) ps between ha hb (blocked_result a b ps ha hb pair fs ls ks q bs e1 e2 e3 e4 blocks rises) pair e1 (e2 ∙ e3) e4
    (subst (λ gs. (xs : List ℕ) → MeetFlux a.group gs (result_flux a b) xs → IsEntry a b ps between xs (entry_in gs bs xs)) e3 entries))
