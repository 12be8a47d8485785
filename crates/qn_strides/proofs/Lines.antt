-- The lines of coupled legs: their sectors, and what a tuple of sectors gives them.
use Rattle.std.proofs.Common.{◌≡◌, ◌<◌, ℕ, zero, suc, ◌+◌, ◌==◌, ◌⊎◌, inl, inr, ℤ, pos, Bool, true, false, not, ◌||◌, ◌&&◌, cond, List, [], ◌∷◌, ◌++◌, refl, sym, ◌∙◌, ap, ap₂, subst, map, filter, length, get_or, eq-eqb, eqb-true, zero-add, arith}
use Rattle.qn_sign.proofs.Order.{is_in-perm}
use Rattle.std.specs.List.{All, range_with_len}
use Rattle.std.proofs.lemmas.Bool.{or_cases, or_left, or_right, false≢true}
use Rattle.std.proofs.lemmas.List.{map-append}
use Rattle.std.proofs.lemmas.List.FromFn.{length-map-range_with_len, get_or-map-range_with_len}
use Rattle.qn_sign.specs.Sign.{is_in, exchange_sign, is_odd, IsDistinct, Perm}
use Rattle.qn_sign.specs.Positions.{positions, is_odd_at}
use Rattle.qn_sign.proofs.Positions.{positions_stand_for_things, is_in-positions}
use Rattle.qn_charge.specs.declared.factor.Factor.{Factor}
use Rattle.qn_charge.specs.Charges.{parity}
use Rattle.qn_index.specs.Legs.{LegValue, SectorValue, total, sector_at}
use Rattle.qn_value.specs.Networks.{End, Assignment, Parities, same_end, goal, odd_end, twist_sign, values, at_values}
use Rattle.qn_value.specs.Labels.{Slot, is_inward, ends, sectors_on, IsWellLabelled}
use Rattle.qn_value.specs.Fluxes.{arrow_of}
use Rattle.qn_value.specs.Blocks.{legs_on, HaveSectors}
use Rattle.qn_value.specs.Rows.{meet_on}
use Rattle.qn_value.specs.Local.{no_leg, is_coupled, label_at, IsCouple, IsCoupling, picked, open_from}
use Rattle.qn_value.proofs.NetLaws.{end_test}
use Rattle.qn_value.proofs.Sums.{perm-map}
use Rattle.qn_value.proofs.RowsLemmas.{values_back}
use Rattle.qn_value.proofs.PlacedLemmas.{HaveSectorsOn, sectors_fit, arrow_back}
use Rattle.qn_value.proofs.CoupleLemmas.{open_before}
use Rattle.qn_value.proofs.CoupledLemmas.{leg_at, slot_at, well_labelled}
use Rattle.qn_strides.specs.Strides.{in_place, out_place, goal_couples, open_places, goal_places, couples_meet, sector_parities}
use Rattle.qn_strides.proofs.Goal.{below_positions, map_members, perm_goal, bonds_at, end_at, all_ends, AreEnds, IsNumbered, numbered_first, numbered_rest, numbered_ends, numbered, pairs_at, in_sectors, uniform}
use Rattle.qn_strides.proofs.Along.{AreDims, map-map}
use Rattle.qn_facts.proofs.Booleans.{same_tests}

pub legs_from : (g : ℕ → LegValue) (a : ℕ) (ls : List LegValue) → ((k : ℕ) → k < length ls → g (a + k) ≡ get_or ls k no_leg) → map g (range_with_len a (length ls)) ≡ ls
legs_from g a [] h = refl
legs_from g a (l ∷ ls) h = ap₂ (λ y ys. y ∷ ys) (ap g here ∙ h 0 (omega arith)) (legs_from g (a + 1) ls (λ k lt. ap g (next k) ∙ h (suc k) (omega arith)))
  where
    here : a ≡ a + 0
    here = omega arith

    next : (k : ℕ) → a + 1 + k ≡ a + suc k
    next k = omega arith

-- all legs with their ends
abbrev pub all_slots : List LegValue → List (ℕ × ℕ) → List Slot
all_slots ls cs = map (slot_at (label_at cs) (leg_at ls)) (positions (length ls))

pub ends_all : (ls : List LegValue) (cs : List (ℕ × ℕ)) → ends (all_slots ls cs) ≡ all_ends ls cs
ends_all ls cs = map-map (slot_at (label_at cs) (leg_at ls)) (λ s. s.end) (positions (length ls))

-- the sectors of each leg's line are those of the leg
abbrev pub FitLines : List LegValue → List (ℕ × ℕ) → (ℤ → List SectorValue) → Type 0
FitLines ls cs sectors = (i : ℕ) → i < length ls → sectors (label_at cs i) ≡ (leg_at ls i).sectors

fit_in : (ls : List LegValue) (cs : List (ℕ × ℕ)) (sectors : ℤ → List SectorValue) (xs : List ℕ) (i : ℕ) → HaveSectorsOn sectors (map (slot_at (label_at cs) (leg_at ls)) xs) → is_in ◌==◌ i xs ≡ true →
    sectors (label_at cs i) ≡ (leg_at ls i).sectors
fit_in ls cs sectors [] i h k = absurd (false≢true k)
fit_in ls cs sectors (x ∷ xs) i h k = go (i == x) refl (fit_in ls cs sectors xs i h.1) k
  where
    go : (b : Bool) → (i == x) ≡ b → (is_in ◌==◌ i xs ≡ true → sectors (label_at cs i) ≡ (leg_at ls i).sectors) → (b || is_in ◌==◌ i xs) ≡ true →
        sectors (label_at cs i) ≡ (leg_at ls i).sectors
    go true e ih l = subst (λ m. sectors (label_at cs m) ≡ (leg_at ls m).sectors) (sym (eqb-true i x e)) h.0
    go false e ih l = ih l

pub lines_fit : (ls : List LegValue) (cs : List (ℕ × ℕ)) → IsCoupling ls cs → FitLines ls cs (sectors_on (all_slots ls cs))
lines_fit ls cs good i l =
    fit_in ls cs (sectors_on (all_slots ls cs)) (positions (length ls)) i (sectors_fit (all_slots ls cs) (uniform ls cs good (positions (length ls)))) (is_in-positions 0 (length ls) i (omega arith) (omega arith))

-- the places are legs
abbrev pub AreWithin : List LegValue → List ℕ → Type 0
AreWithin ls ps = (i : ℕ) → is_in ◌==◌ i ps ≡ true → i < length ls

pub positions_within : (ls : List LegValue) → AreWithin ls (positions (length ls))
positions_within ls i h = below_positions (length ls) i h

filter_within : (p : ℕ → Bool) (ls : List LegValue) (xs : List ℕ) → AreWithin ls xs → AreWithin ls (filter p xs)
filter_within p ls [] h i k = absurd (false≢true k)
filter_within p ls (x ∷ xs) h i k = go (p x) (filter_within p ls xs (λ j l. h j (or_right (j == x) (is_in ◌==◌ j xs) l)) i) k
  where
    go : (b : Bool) → (is_in ◌==◌ i (filter p xs) ≡ true → i < length ls) → is_in ◌==◌ i (cond b (x ∷ filter p xs) (filter p xs)) ≡ true → i < length ls
    go false ih l = ih l
    go true ih l = by (or_cases (i == x) (is_in ◌==◌ i (filter p xs)) l)
      where
        by : ((i == x) ≡ true) ⊎ (is_in ◌==◌ i (filter p xs) ≡ true) → i < length ls
        by (inl e) = h i (or_left (i == x) (is_in ◌==◌ i xs) e)
        by (inr e) = ih e

pub open_within : (ls : List LegValue) (cs : List (ℕ × ℕ)) → AreWithin ls (open_places cs (length ls))
open_within ls cs = filter_within (λ i. not (is_coupled cs i)) ls (positions (length ls)) (positions_within ls)

pub legs_on_places : (ls : List LegValue) (cs : List (ℕ × ℕ)) (sectors : ℤ → List SectorValue) (ps : List ℕ) → FitLines ls cs sectors → AreWithin ls ps →
    legs_on sectors (map (end_at ls cs) ps) ≡ map (leg_at ls) ps
legs_on_places ls cs sectors ps f h =
    map-map (end_at ls cs) (λ e. record { arrow = arrow_of e.inward; sectors = sectors e.label }) ps
    ∙ map_members (λ i. record { arrow = arrow_of (is_inward (leg_at ls i).arrow); sectors = sectors (label_at cs i) }) (leg_at ls) ps
    (λ i k. λ j. record { arrow = arrow_back (leg_at ls i).arrow j; sectors = f i (h i k) j })

pub legs_on_all : (ls : List LegValue) (cs : List (ℕ × ℕ)) (sectors : ℤ → List SectorValue) → FitLines ls cs sectors → legs_on sectors (all_ends ls cs) ≡ ls
legs_on_all ls cs sectors f = legs_on_places ls cs sectors (positions (length ls)) f (positions_within ls) ∙ legs_from (leg_at ls) 0 ls (λ k l. ap (leg_at ls) (zero-add k))

-- the open legs, in the order of the word
open_upto : (cs : List (ℕ × ℕ)) (g : ℕ → LegValue) (a : ℕ) (ls : List LegValue) → ((k : ℕ) → k < length ls → g (a + k) ≡ get_or ls k no_leg) →
    open_from a cs ls ≡ map g (filter (λ i. not (is_coupled cs i)) (range_with_len a (length ls)))
open_upto cs g a [] h = refl
open_upto cs g a (l ∷ ls) h =
    go (is_coupled cs a) (sym (ap g here ∙ h 0 (omega arith))) (ap (λ m. open_from m cs ls) suc_is ∙ open_upto cs g (a + 1) ls (λ k lt. ap g (next k) ∙ h (suc k) (omega arith)))
  where
    here : a ≡ a + 0
    here = omega arith

    suc_is : suc a ≡ a + 1
    suc_is = omega arith

    next : (k : ℕ) → a + 1 + k ≡ a + suc k
    next k = omega arith

    go : (b : Bool) → l ≡ g a → open_from (suc a) cs ls ≡ map g (filter (λ i. not (is_coupled cs i)) (range_with_len (a + 1) (length ls))) →
        cond b (open_from (suc a) cs ls) (l ∷ open_from (suc a) cs ls)
        ≡ map g (cond (not b) (a ∷ filter (λ i. not (is_coupled cs i)) (range_with_len (a + 1) (length ls))) (filter (λ i. not (is_coupled cs i)) (range_with_len (a + 1) (length ls))))
    go true e ih = ih
    go false e ih = ap₂ (λ y ys. y ∷ ys) e ih

pub open_at : (ls : List LegValue) (cs : List (ℕ × ℕ)) → open_from 0 cs ls ≡ map (leg_at ls) (open_places cs (length ls))
open_at ls cs = open_upto cs (leg_at ls) 0 ls (λ k l. ap (leg_at ls) (zero-add k))

-- what a tuple gives the ends
abbrev pub GivesTuple : List LegValue → List (ℕ × ℕ) → List ℕ → Assignment → Type 0
GivesTuple ls cs t k = (i : ℕ) → i < length ls → k (end_at ls cs i) ≡ get_or t i 0

pub gives_tuple : (ls : List LegValue) (cs : List (ℕ × ℕ)) → IsCoupling ls cs → (t : List ℕ) → length t ≡ length ls → GivesTuple ls cs t (at_values (all_ends ls cs) t)
gives_tuple ls cs good t n i l =
    sym (get_or-map-range_with_len (λ j. at_values (all_ends ls cs) t (end_at ls cs j)) 0 (length ls) i i 0 l (zero-add i))
    ∙ ap (λ xs. get_or xs i 0) (sym (map-map (end_at ls cs) (at_values (all_ends ls cs) t) (positions (length ls)))
    ∙ values_back (all_ends ls cs) t distinct long)
  where
    distinct : IsDistinct same_end (all_ends ls cs)
    distinct = let w : IsWellLabelled (all_ends ls cs) (open_before cs (length ls)) = well_labelled ls cs good in w.distinct

    long : length t ≡ length (all_ends ls cs)
    long = n ∙ sym (length-map-range_with_len (end_at ls cs) 0 (length ls))

pub in_within : (ls : List LegValue) (c : ℕ × ℕ) → IsCouple ls c → in_place ls c < length ls
in_within ls c h = go (is_inward (leg_at ls c.0).arrow)
  where
    go : (b : Bool) → cond b c.0 c.1 < length ls
    go true = h.first
    go false = h.second

pub out_within : (ls : List LegValue) (c : ℕ × ℕ) → IsCouple ls c → out_place ls c < length ls
out_within ls c h = go (is_inward (leg_at ls c.0).arrow)
  where
    go : (b : Bool) → cond b c.1 c.0 < length ls
    go true = h.second
    go false = h.first

-- the line of the n-th couple
pub line_sectors : (n : ℕ) (ls : List LegValue) (cs all : List (ℕ × ℕ)) (c : ℕ × ℕ) (sectors : ℤ → List SectorValue) → FitLines ls all sectors → IsNumbered n ls (c ∷ cs) (label_at all) →
    sectors (pos n) ≡ (leg_at ls (in_place ls c)).sectors
line_sectors n ls cs all c sectors f h =
    ap sectors (sym (ap (λ (x : End). x.label) (numbered_ends n ls c cs (label_at all) h).first))
    ∙ f (in_place ls c) (in_within ls c (numbered_first n ls c cs (label_at all) h))

pub bonds_fit : (n : ℕ) (ls : List LegValue) (cs all : List (ℕ × ℕ)) (sectors : ℤ → List SectorValue) → FitLines ls all sectors → IsNumbered n ls cs (label_at all) →
    HaveSectors sectors (bonds_at n ls cs)
bonds_fit n ls [] all sectors f h = tt
bonds_fit n ls (c ∷ cs) all sectors f h = (
  ap total (sym (line_sectors n ls cs all c sectors f h ∙ in_sectors ls c (numbered_first n ls c cs (label_at all) h))),
  bonds_fit (suc n) ls cs all sectors f (numbered_rest n ls c cs (label_at all) h),
)

pub dims_fit : (n : ℕ) (ls : List LegValue) (cs all : List (ℕ × ℕ)) (sectors : ℤ → List SectorValue) (t : List ℕ) (k : Assignment) → FitLines ls all sectors → GivesTuple ls all t k → IsNumbered n ls cs (label_at all) →
    AreDims sectors k ls t n cs
dims_fit n ls [] all sectors t k f g h = tt
dims_fit n ls (c ∷ cs) all sectors t k f g h = (
  (λ i. (sector_at (line_sectors n ls cs all c sectors f h i) (at i)).dim),
  dims_fit (suc n) ls cs all sectors t k f g (numbered_rest n ls c cs (label_at all) h),
)
  where
    at : k (record { label = pos n; inward = true }) ≡ get_or t (in_place ls c) 0
    at = ap k (sym (numbered_ends n ls c cs (label_at all) h).first) ∙ g (in_place ls c) (in_within ls c (numbered_first n ls c cs (label_at all) h))

same_turn : (x y : ℕ) → (x == y) ≡ (y == x)
same_turn x y = same_tests (x == y) (y == x) (λ e. eq-eqb y x (sym (eqb-true x y e))) (λ e. eq-eqb x y (sym (eqb-true y x e)))

-- the tuple meets on the bonds exactly where its couples meet
pub meets_are : (n : ℕ) (ls : List LegValue) (cs all : List (ℕ × ℕ)) (t : List ℕ) (k : Assignment) → GivesTuple ls all t k → IsNumbered n ls cs (label_at all) →
    meet_on (bonds_at n ls cs) k ≡ couples_meet cs t
meets_are n ls [] all t k g h = refl
meets_are n ls (c ∷ cs) all t k g h =
    ap₂ (λ p q. p && q) (ap₂ ◌==◌ one two ∙ turned (is_inward (leg_at ls c.0).arrow)) (meets_are (suc n) ls cs all t k g (numbered_rest n ls c cs (label_at all) h))
  where
    e : AreEnds n ls c (label_at all)
    e = numbered_ends n ls c cs (label_at all) h

    one : k (record { label = pos n; inward = true }) ≡ get_or t (in_place ls c) 0
    one = ap k (sym e.first) ∙ g (in_place ls c) (in_within ls c (numbered_first n ls c cs (label_at all) h))

    two : k (record { label = pos n; inward = false }) ≡ get_or t (out_place ls c) 0
    two = ap k (sym e.second) ∙ g (out_place ls c) (out_within ls c (numbered_first n ls c cs (label_at all) h))

    turned : (b : Bool) → (get_or t (cond b c.0 c.1) 0 == get_or t (cond b c.1 c.0) 0) ≡ (get_or t c.0 0 == get_or t c.1 0)
    turned true = refl
    turned false = same_turn (get_or t c.1 0) (get_or t c.0 0)

pub opens_are : (ls : List LegValue) (cs : List (ℕ × ℕ)) (t : List ℕ) (k : Assignment) → GivesTuple ls cs t k →
    values (map (end_at ls cs) (open_places cs (length ls))) k ≡ picked 0 t (open_places cs (length ls))
opens_are ls cs t k g =
    map-map (end_at ls cs) k (open_places cs (length ls))
    ∙ map_members (λ i. k (end_at ls cs i)) (λ i. get_or t i 0) (open_places cs (length ls)) (λ i h. g i (open_within ls cs i h))

-- no bond is twisted
pub not_twisted : (par : Parities) (n : ℕ) (ls : List LegValue) (cs : List (ℕ × ℕ)) (k : Assignment) → twist_sign par (bonds_at n ls cs) k ≡ false
not_twisted par n ls [] k = refl
not_twisted par n ls (c ∷ cs) k = not_twisted par (suc n) ls cs k

goal_within : (ls : List LegValue) (cs : List (ℕ × ℕ)) → IsCoupling ls cs → (i : ℕ) → is_in ◌==◌ i (goal_places ls cs) ≡ true → i < length ls
goal_within ls cs good i h = below_positions (length ls) i (is_in-perm ◌==◌ i (perm_goal ls cs good) ∙ h)

pub all_within : (n : ℕ) (xs : List ℕ) → ((i : ℕ) → is_in ◌==◌ i xs ≡ true → i < n) → All (λ k. k < n) xs
all_within n [] h k d l = absurd (omega arith)
all_within n (x ∷ xs) h zero d l = h x (or_left (x == x) (is_in ◌==◌ x xs) (eq-eqb x x refl))
all_within n (x ∷ xs) h (suc k) d l = all_within n xs (λ i m. h i (or_right (i == x) (is_in ◌==◌ i xs) m)) k d (omega arith)

-- the goal of the network is the goal by places
pub goal_is : (ls : List LegValue) (cs : List (ℕ × ℕ)) → IsCoupling ls cs →
    map (end_at ls cs) (goal_places ls cs) ≡ goal (bonds_at 1 ls cs) (map (end_at ls cs) (open_places cs (length ls)))
goal_is ls cs good =
    map-append (end_at ls cs) (goal_couples ls cs) (open_places cs (length ls))
    ∙ ap (λ es. es ++ map (end_at ls cs) (open_places cs (length ls))) (pairs_at 1 ls cs (label_at cs) (numbered ls cs good))

pub goal_perm : (ls : List LegValue) (cs : List (ℕ × ℕ)) → IsCoupling ls cs →
    Perm (all_ends ls cs) (goal (bonds_at 1 ls cs) (map (end_at ls cs) (open_places cs (length ls))))
goal_perm ls cs good = subst (λ es. Perm (all_ends ls cs) es) (goal_is ls cs good) (perm-map (end_at ls cs) (perm_goal ls cs good))

-- the sign of a tuple by the places of its legs
pub sign_at : (ls : List LegValue) (cs : List (ℕ × ℕ)) → IsCoupling ls cs → (odd : End → Bool) →
    exchange_sign same_end odd (all_ends ls cs) (goal (bonds_at 1 ls cs) (map (end_at ls cs) (open_places cs (length ls))))
    ≡ exchange_sign ◌==◌ (is_odd_at (map (λ i. odd (end_at ls cs i)) (positions (length ls)))) (positions (length ls)) (goal_places ls cs)
sign_at ls cs good odd =
    ap (λ es. exchange_sign same_end odd (all_ends ls cs) es) (sym (goal_is ls cs good) ∙ map_members (end_at ls cs) (λ i. get_or (all_ends ls cs) i no_end) (goal_places ls cs)
    (λ i h. sym (get_or-map-range_with_len (end_at ls cs) 0 (length ls) i i no_end (goal_within ls cs good i h) (zero-add i))))
    ∙ ap is_odd (positions_stand_for_things same_end end_test odd (all_ends ls cs) no_end (goal_places ls cs) distinct (all_within (length (all_ends ls cs)) (goal_places ls cs) (λ i h. let l : i < length ls = goal_within ls cs good i h in omega (arith, l, long))))
    ∙ ap₂ (λ bs n. exchange_sign ◌==◌ (is_odd_at bs) (positions n) (goal_places ls cs)) (map-map (end_at ls cs) odd (positions (length ls))) long
  where
    no_end : End
    no_end = record { label = pos 0; inward = true }

    distinct : IsDistinct same_end (all_ends ls cs)
    distinct = let w : IsWellLabelled (all_ends ls cs) (open_before cs (length ls)) = well_labelled ls cs good in w.distinct

    long : length (all_ends ls cs) ≡ length ls
    long = length-map-range_with_len (end_at ls cs) 0 (length ls)

-- the parities of the sectors, leg by leg
parities_from : (fs : List Factor) (g : ℕ → LegValue) (v : ℕ → ℕ) (a : ℕ) (ls : List LegValue) (t : List ℕ) → length t ≡ length ls →
    ((k : ℕ) → k < length ls → g (a + k) ≡ get_or ls k no_leg) → ((k : ℕ) → k < length ls → v (a + k) ≡ get_or t k 0) →
    map (λ i. parity fs (sector_at (g i).sectors (v i)).charge) (range_with_len a (length ls)) ≡ sector_parities fs ls t
parities_from fs g v a [] t n h k = refl
parities_from fs g v a (l ∷ ls) [] n h k = absurd (omega arith)
parities_from fs g v a (l ∷ ls) (s ∷ ss) n h k =
    ap₂ (λ y ys. y ∷ ys)
    (λ i. parity fs (sector_at ((ap g here ∙ h 0 (omega arith)) i).sectors ((ap v here ∙ k 0 (omega arith)) i)).charge)
    (parities_from fs g v (a + 1) ls ss (omega arith) (λ j lt. ap g (next j) ∙ h (suc j) (omega arith)) (λ j lt. ap v (next j) ∙ k (suc j) (omega arith)))
  where
    here : a ≡ a + 0
    here = omega arith

    next : (j : ℕ) → a + 1 + j ≡ a + suc j
    next j = omega arith

-- by the charges of the lines' sectors
abbrev pub sector_parity : List Factor → (ℤ → List SectorValue) → Parities
sector_parity fs sectors l s = parity fs (sector_at (sectors l) s).charge

pub parities_are : (fs : List Factor) (ls : List LegValue) (cs : List (ℕ × ℕ)) (sectors : ℤ → List SectorValue) (t : List ℕ) (k : Assignment) → FitLines ls cs sectors → GivesTuple ls cs t k → length t ≡ length ls →
    map (λ i. odd_end (sector_parity fs sectors) k (end_at ls cs i)) (positions (length ls)) ≡ sector_parities fs ls t
parities_are fs ls cs sectors t k f g n =
    map_members (λ i. odd_end (sector_parity fs sectors) k (end_at ls cs i)) (λ i. parity fs (sector_at (leg_at ls i).sectors (get_or t i 0)).charge) (positions (length ls))
    (λ i h. λ j. parity fs (sector_at (f i (positions_within ls i h) j) (g i (positions_within ls i h) j)).charge)
    ∙ parities_from fs (leg_at ls) (λ i. get_or t i 0) 0 ls t n (λ j l. ap (leg_at ls) (zero-add j)) (λ j l. ap (λ m. get_or t m 0) (zero-add j))
