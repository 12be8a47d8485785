-- Word and goal of a contraction whose legs are coupled, by the places of the legs.
use Rattle.std.proofs.Common.{◌≡◌, ◌≢◌, ◌≤◌, ◌<◌, ℕ, zero, suc, ◌+◌, ◌==◌, ℤ, pos, negsuc, Bool, true, false, not, ◌||◌, ◌&&◌, cond, List, [], ◌∷◌, ◌++◌, refl, sym, ◌∙◌, ap, ap₂, subst, map, filter, length, ◌⊎◌, inl, inr, eqb-true, eq-eqb, nat_lt, zero-add, arith}
use mathlib.Core.Path.{fun_ext}
use Rattle.std.specs.List.{All}
use Rattle.std.proofs.lemmas.Bool.{or_cases, or_left, or_right, false≢true}
use Rattle.std.proofs.lemmas.Bool.Decides.{nat_tests}
use Rattle.std.proofs.lemmas.List.{map-append}
use Rattle.std.proofs.lemmas.List.Elements.{filter-append}
use Rattle.qn_sign.specs.Sign.{is_in, IsDistinct, Perm}
use Rattle.qn_sign.specs.Sign.Perm.{none, keep, swap, then_by}
use Rattle.qn_sign.specs.Positions.{positions, IsOrder}
use Rattle.qn_sign.proofs.Parity.{perm-refl, perm-sym}
use Rattle.qn_sign.proofs.Order.{is_in-perm, distinct-perm}
use Rattle.qn_sign.proofs.Members.{perm_pick}
use Rattle.qn_sign.proofs.Positions.{nat_test, orders_are_permutations, is_in-positions, within_positions}
use Rattle.qn_index.specs.declared.leg.Dir.{Dir}
use Rattle.qn_index.specs.declared.leg.Dir.TheVariants.{Out, In}
use Rattle.qn_index.specs.Legs.{LegValue, total}
use Rattle.qn_value.specs.Networks.{End, Bond, same_end, pairs_of}
use Rattle.qn_value.specs.Labels.{is_inward, is_positive, bonds_from, bonds_of, open_end, opens_of, IsWellLabelled, SuitsAll, IsUniform}
use Rattle.qn_value.specs.Local.{places_of, is_coupled, couple_number, label_at, IsCouple, IsCoupling}
use Rattle.qn_value.proofs.Sums.{perm-map}
use Rattle.qn_value.proofs.CoupleLemmas.{couple_at, stands_in, couple_passes, one_couple, open_before, open_step, open_grows}
use Rattle.qn_value.proofs.CoupledLemmas.{leg_at, slot_at, well_labelled}
use Rattle.qn_strides.specs.Strides.{in_place, out_place, goal_couples, open_places, goal_places}
use Rattle.qn_value.proofs.CoupledLemmas.{to_range}
pub use Rattle.qn_value.proofs.CoupledLemmas.{coupled_label}
pub use Rattle.qn_value.proofs.CoupledLemmas.{open_label}
use Rattle.qn_value.proofs.LabelLemmas.{perm_order}
use Rattle.qn_value.proofs.CoupleLemmas.{not_here}
use Rattle.qn_facts.proofs.Lists.{range_last}
pub use Rattle.qn_sign.proofs.Positions.{within_positions as of_positions}

-- ---- lists of numbers

pub below_positions : (n x : ℕ) → is_in ◌==◌ x (positions n) ≡ true → x < n
below_positions n x h = let r = within_positions 0 n x h in omega (arith, r.1)

pub positions_apart : (n : ℕ) → IsDistinct ◌==◌ (positions n)
positions_apart n = let o : IsOrder n (positions n) = (orders_are_permutations n (positions n)).0 (perm-refl (positions n)) in o.distinct

pub perm-filter : {E : Type 0} (p : E → Bool) {xs ys : List E} → Perm xs ys → Perm (filter p xs) (filter p ys)
perm-filter p none = none
perm-filter p (keep {x = x} {xs = xs} {ys = ys} q) = go (p x) (perm-filter p q)
  where
    go : (b : Bool) → Perm (filter p xs) (filter p ys) → Perm (cond b (x ∷ filter p xs) (filter p xs)) (cond b (x ∷ filter p ys) (filter p ys))
    go true r = keep r
    go false r = r
perm-filter p (swap {x = x} {y = y} {xs = xs}) = go (p x) (p y)
  where
    go : (b c : Bool) → Perm (cond b (x ∷ cond c (y ∷ filter p xs) (filter p xs)) (cond c (y ∷ filter p xs) (filter p xs)))
        (cond c (y ∷ cond b (x ∷ filter p xs) (filter p xs)) (cond b (x ∷ filter p xs) (filter p xs)))
    go true true = swap
    go true false = perm-refl (x ∷ filter p xs)
    go false true = perm-refl (y ∷ filter p xs)
    go false false = perm-refl (filter p xs)
perm-filter p (then_by q r) = then_by (perm-filter p q) (perm-filter p r)

pub map_members : {E : Type 0} (f g : ℕ → E) (xs : List ℕ) → ((x : ℕ) → is_in ◌==◌ x xs ≡ true → f x ≡ g x) → map f xs ≡ map g xs
map_members f g [] h = refl
map_members f g (x ∷ xs) h =
    ap₂ (λ y ys. y ∷ ys) (h x (or_left (x == x) (is_in ◌==◌ x xs) (eq-eqb x x refl)))
    (map_members f g xs (λ y k. h y (or_right (y == x) (is_in ◌==◌ y xs) k)))

-- what is in the open places is open
pub is_open : (cs : List (ℕ × ℕ)) (xs : List ℕ) (i : ℕ) → is_in ◌==◌ i (filter (λ j. not (is_coupled cs j)) xs) ≡ true → is_coupled cs i ≡ false
is_open cs [] i h = absurd (false≢true h)
is_open cs (x ∷ xs) i h = go (is_coupled cs x) refl (is_open cs xs i) h
  where
    go : (b : Bool) → is_coupled cs x ≡ b → (is_in ◌==◌ i (filter (λ j. not (is_coupled cs j)) xs) ≡ true → is_coupled cs i ≡ false) →
        is_in ◌==◌ i (cond (not b) (x ∷ filter (λ j. not (is_coupled cs j)) xs) (filter (λ j. not (is_coupled cs j)) xs)) ≡ true → is_coupled cs i ≡ false
    go true e ih k = ih k
    go false e ih k = by (or_cases (i == x) (is_in ◌==◌ i (filter (λ j. not (is_coupled cs j)) xs)) k)
      where
        by : ((i == x) ≡ true) ⊎ (is_in ◌==◌ i (filter (λ j. not (is_coupled cs j)) xs) ≡ true) → is_coupled cs i ≡ false
        by (inl f) = ap (is_coupled cs) (eqb-true i x f) ∙ e
        by (inr f) = ih f

-- ---- the couples

pub perm_couples : (ls : List LegValue) (cs : List (ℕ × ℕ)) → Perm (places_of cs) (goal_couples ls cs)
perm_couples ls [] = none
perm_couples ls (c ∷ cs) = go (is_inward (leg_at ls c.0).arrow) (perm_couples ls cs)
  where
    go : (b : Bool) → Perm (places_of cs) (goal_couples ls cs) → Perm (c.0 ∷ c.1 ∷ places_of cs) (cond b c.0 c.1 ∷ cond b c.1 c.0 ∷ goal_couples ls cs)
    go true p = keep (keep p)
    go false p = then_by swap (keep (keep p))

-- a coupled place is one of the legs
pub coupled_within : (ls : List LegValue) (cs : List (ℕ × ℕ)) → IsCoupling ls cs → (i : ℕ) → is_coupled cs i ≡ true → i < length ls
coupled_within ls cs good i h = at (couple_passes (IsCouple ls) cs i good.meet h) (stands_in cs i h)
  where
    at : IsCouple ls (couple_at cs i) → (i ≡ (couple_at cs i).0) ⊎ (i ≡ (couple_at cs i).1) → i < length ls
    at c (inl e) = omega (arith, c.first, e)
    at c (inr e) = omega (arith, c.second, e)

-- each leg has one place in the goal
pub perm_goal : (ls : List LegValue) (cs : List (ℕ × ℕ)) → IsCoupling ls cs → Perm (positions (length ls)) (goal_places ls cs)
perm_goal ls cs good =
    subst (λ (p : ℕ → Bool). Perm (positions (length ls)) (goal_couples ls cs ++ filter p (positions (length ls))))
    (fun_ext (λ i. ap not (sym (is_in-perm ◌==◌ i (perm_couples ls cs)))))
    (perm_pick ◌==◌ nat_test (positions (length ls)) (goal_couples ls cs) (positions_apart (length ls))
    (distinct-perm ◌==◌ nat_test (perm_couples ls cs) good.distinct)
    (λ i h. is_in-positions 0 (length ls) i (omega arith) (let l : i < length ls = coupled_within ls cs good i (is_in-perm ◌==◌ i (perm_couples ls cs) ∙ h) in omega (arith, l))))

opposite : (d f : Dir) → d ≢ f → is_inward f ≡ not (is_inward d)
opposite Out Out n = absurd (n refl)
opposite Out In n = refl
opposite In Out n = refl
opposite In In n = absurd (n refl)

pub in_inward : (ls : List LegValue) (c : ℕ × ℕ) → IsCouple ls c → is_inward (leg_at ls (in_place ls c)).arrow ≡ true
in_inward ls c h = go (is_inward (leg_at ls c.0).arrow) refl
  where
    go : (b : Bool) → is_inward (leg_at ls c.0).arrow ≡ b → is_inward (leg_at ls (cond b c.0 c.1)).arrow ≡ true
    go true e = e
    go false e = opposite (leg_at ls c.0).arrow (leg_at ls c.1).arrow h.meets.0 ∙ ap not e

pub out_outward : (ls : List LegValue) (c : ℕ × ℕ) → IsCouple ls c → is_inward (leg_at ls (out_place ls c)).arrow ≡ false
out_outward ls c h = go (is_inward (leg_at ls c.0).arrow) refl
  where
    go : (b : Bool) → is_inward (leg_at ls c.0).arrow ≡ b → is_inward (leg_at ls (cond b c.1 c.0)).arrow ≡ false
    go true e = opposite (leg_at ls c.0).arrow (leg_at ls c.1).arrow h.meets.0 ∙ ap not e
    go false e = e

pub in_sectors : (ls : List LegValue) (c : ℕ × ℕ) → IsCouple ls c → (leg_at ls (in_place ls c)).sectors ≡ (leg_at ls c.0).sectors
in_sectors ls c h = go (is_inward (leg_at ls c.0).arrow)
  where
    go : (b : Bool) → (leg_at ls (cond b c.0 c.1)).sectors ≡ (leg_at ls c.0).sectors
    go true = refl
    go false = sym h.meets.1

-- the bonds, one for each couple
abbrev pub bonds_at : ℕ → List LegValue → List (ℕ × ℕ) → List Bond
bonds_at n ls [] = []
bonds_at n ls (c ∷ cs) = record { label = pos n; dim = total (leg_at ls c.0).sectors; twisted = false } ∷ bonds_at (suc n) ls cs

abbrev pub end_with : List LegValue → (ℕ → ℤ) → ℕ → End
end_with ls label i = record { label = label i; inward = is_inward (leg_at ls i).arrow }

-- the labels are those of the couples, counted from n
abbrev pub AreNumbered : ℕ → List (ℕ × ℕ) → (ℕ → ℤ) → Type 0
AreNumbered n cs label = (i : ℕ) → is_coupled cs i ≡ true → label i ≡ pos (couple_number n cs i)

numbered_next : (n : ℕ) (c : ℕ × ℕ) (cs : List (ℕ × ℕ)) (label : ℕ → ℤ) → IsDistinct ◌==◌ (places_of (c ∷ cs)) → AreNumbered n (c ∷ cs) label → AreNumbered (suc n) cs label
numbered_next n c cs label d h i k =
    h i (or_right (i == c.0) ((i == c.1) || is_coupled cs i) (or_right (i == c.1) (is_coupled cs i) k))
    ∙ ap (λ b. pos (cond b n (couple_number (suc n) cs i))) (not_here c cs i d k)

-- both places of a couple have its number
numbered_here : (n : ℕ) (c : ℕ × ℕ) (cs : List (ℕ × ℕ)) (label : ℕ → ℤ) → AreNumbered n (c ∷ cs) label → (label c.0 ≡ pos n) × (label c.1 ≡ pos n)
numbered_here n c cs label h = (
  h c.0 (or_left (c.0 == c.0) ((c.0 == c.1) || is_coupled cs c.0) one) ∙ ap (λ b. pos (cond b n (couple_number (suc n) cs c.0))) (or_left (c.0 == c.0) (c.0 == c.1) one),
  h c.1 (or_right (c.1 == c.0) ((c.1 == c.1) || is_coupled cs c.1) (or_left (c.1 == c.1) (is_coupled cs c.1) two)) ∙ ap (λ b. pos (cond b n (couple_number (suc n) cs c.1))) (or_right (c.1 == c.0) (c.1 == c.1) two),
)
  where
    one : (c.0 == c.0) ≡ true
    one = eq-eqb c.0 c.0 refl

    two : (c.1 == c.1) ≡ true
    two = eq-eqb c.1 c.1 refl

-- the ends of the first couple are those of the first bond
pub record AreEnds (n : ℕ) (ls : List LegValue) (c : ℕ × ℕ) (label : ℕ → ℤ) : Type 0 where
  pub first : end_with ls label (in_place ls c) ≡ record { label = pos n; inward = true }
  pub second : end_with ls label (out_place ls c) ≡ record { label = pos n; inward = false }

pub ends_here : (n : ℕ) (ls : List LegValue) (c : ℕ × ℕ) (cs : List (ℕ × ℕ)) (label : ℕ → ℤ) → IsCouple ls c → AreNumbered n (c ∷ cs) label → AreEnds n ls c label
ends_here n ls c cs label h k = record {
  first = λ i. record { label = one i; inward = in_inward ls c h i };
  second = λ i. record { label = two i; inward = out_outward ls c h i };
}
  where
    both : (b : Bool) → label (cond b c.0 c.1) ≡ pos n
    both true = (numbered_here n c cs label k).0
    both false = (numbered_here n c cs label k).1

    across : (b : Bool) → label (cond b c.1 c.0) ≡ pos n
    across true = (numbered_here n c cs label k).1
    across false = (numbered_here n c cs label k).0

    one : label (in_place ls c) ≡ pos n
    one = both (is_inward (leg_at ls c.0).arrow)

    two : label (out_place ls c) ≡ pos n
    two = across (is_inward (leg_at ls c.0).arrow)

-- what the couples hand on to those behind the first
pub record IsNumbered (n : ℕ) (ls : List LegValue) (cs : List (ℕ × ℕ)) (label : ℕ → ℤ) : Type 0 where
  pub meet : All (IsCouple ls) cs
  pub distinct : IsDistinct ◌==◌ (places_of cs)
  pub labels : AreNumbered n cs label

pub numbered_rest : (n : ℕ) (ls : List LegValue) (c : ℕ × ℕ) (cs : List (ℕ × ℕ)) (label : ℕ → ℤ) → IsNumbered n ls (c ∷ cs) label → IsNumbered (suc n) ls cs label
numbered_rest n ls c cs label h = record {
  meet = λ k d l. h.meet (suc k) d (omega arith);
  distinct = h.distinct.1.1;
  labels = numbered_next n c cs label h.distinct h.labels;
}

pub numbered_first : (n : ℕ) (ls : List LegValue) (c : ℕ × ℕ) (cs : List (ℕ × ℕ)) (label : ℕ → ℤ) → IsNumbered n ls (c ∷ cs) label → IsCouple ls c
numbered_first n ls c cs label h = h.meet 0 c (omega arith)

pub numbered_ends : (n : ℕ) (ls : List LegValue) (c : ℕ × ℕ) (cs : List (ℕ × ℕ)) (label : ℕ → ℤ) → IsNumbered n ls (c ∷ cs) label → AreEnds n ls c label
numbered_ends n ls c cs label h = ends_here n ls c cs label (numbered_first n ls c cs label h) h.labels

pub pairs_at : (n : ℕ) (ls : List LegValue) (cs : List (ℕ × ℕ)) (label : ℕ → ℤ) → IsNumbered n ls cs label →
    map (end_with ls label) (goal_couples ls cs) ≡ pairs_of (bonds_at n ls cs)
pairs_at n ls [] label h = refl
pairs_at n ls (c ∷ cs) label h =
    let e : AreEnds n ls c label = numbered_ends n ls c cs label h in
    λ i. e.first i ∷ e.second i ∷ pairs_at (suc n) ls cs label (numbered_rest n ls c cs label h) i

pub numbered : (ls : List LegValue) (cs : List (ℕ × ℕ)) → IsCoupling ls cs → IsNumbered 1 ls cs (label_at cs)
numbered ls cs good = record { meet = good.meet; distinct = good.distinct; labels = coupled_label cs }

-- ---- the open legs

abbrev pub end_at : List LegValue → List (ℕ × ℕ) → ℕ → End
end_at ls cs i = end_with ls (label_at cs) i

abbrev pub all_ends : List LegValue → List (ℕ × ℕ) → List End
all_ends ls cs = map (end_at ls cs) (positions (length ls))

pub end_there : (ls : List LegValue) (cs : List (ℕ × ℕ)) (i : ℕ) → i < length ls → is_in same_end (end_at ls cs i) (all_ends ls cs) ≡ true
end_there ls cs i h = to_range (end_at ls cs) 0 (length ls) i (omega arith) (omega arith)

-- the open leg at a place is the open end of its number
open_is : (ls : List LegValue) (cs : List (ℕ × ℕ)) → IsCoupling ls cs → (i : ℕ) → i < length ls → is_coupled cs i ≡ false →
    end_at ls cs i ≡ open_end (all_ends ls cs) (open_before cs i)
open_is ls cs good i h o = λ t. record { label = open_label cs i o t; inward = arrow (is_inward (leg_at ls i).arrow) refl t }
  where
    w : IsWellLabelled (all_ends ls cs) (open_before cs (length ls))
    w = well_labelled ls cs good

    here : (b : Bool) → is_inward (leg_at ls i).arrow ≡ b → is_in same_end (record { label = negsuc (open_before cs i); inward = b }) (all_ends ls cs) ≡ true
    here b e = subst (λ (x : End). is_in same_end x (all_ends ls cs) ≡ true) (λ t. record { label = open_label cs i o t; inward = e t }) (end_there ls cs i h)

    arrow : (b : Bool) → is_inward (leg_at ls i).arrow ≡ b → is_inward (leg_at ls i).arrow ≡ is_in same_end (record { label = negsuc (open_before cs i); inward = true }) (all_ends ls cs)
    arrow true e = e ∙ sym (here true e)
    arrow false e = e ∙ sym (w.open_once (open_before cs i) (open_grows cs i (length ls) o h) ∙ ap not (here false e))

opens_upto : (ls : List LegValue) (cs : List (ℕ × ℕ)) → IsCoupling ls cs → (p : ℕ) → p ≤ length ls →
    map (end_at ls cs) (open_places cs p) ≡ opens_of (all_ends ls cs) (open_before cs p)
opens_upto ls cs good zero h = refl
opens_upto ls cs good (suc p) h =
    ap (λ xs. map (end_at ls cs) (filter (λ i. not (is_coupled cs i)) xs)) (range_last 0 p ∙ ap (λ k. positions p ++ k ∷ []) (zero-add p))
    ∙ ap (map (end_at ls cs)) (filter-append (λ i. not (is_coupled cs i)) (positions p) (p ∷ []))
    ∙ map-append (end_at ls cs) (open_places cs p) (filter (λ i. not (is_coupled cs i)) (p ∷ []))
    ∙ ap (λ es. es ++ map (end_at ls cs) (filter (λ i. not (is_coupled cs i)) (p ∷ []))) (opens_upto ls cs good p (omega arith))
    ∙ go (is_coupled cs p) refl
  where
    es : List End
    es = all_ends ls cs

    k : ℕ
    k = open_before cs p

    same : (m n : ℕ) → m ≡ n → opens_of es m ≡ opens_of es n
    same m n e = ap (opens_of es) e

    go : (b : Bool) → is_coupled cs p ≡ b → opens_of es k ++ map (end_at ls cs) (cond (not b) (p ∷ []) []) ≡ opens_of es (open_before cs (suc p))
    go true e = append_none (opens_of es k) ∙ same k (open_before cs (suc p)) (let s : open_before cs (suc p) ≡ k + 0 = open_step cs p ∙ ap (λ b. k + cond b 0 1) e in omega (arith, s))
      where
        append_none : (xs : List End) → xs ++ [] ≡ xs
        append_none [] = refl
        append_none (x ∷ xs) = ap (λ ys. x ∷ ys) (append_none xs)
    go false e =
        ap (λ (x : End). opens_of es k ++ x ∷ []) (open_is ls cs good p (omega arith) e)
        ∙ same (suc k) (open_before cs (suc p)) (let s : open_before cs (suc p) ≡ k + 1 = open_step cs p ∙ ap (λ b. k + cond b 0 1) e in omega (arith, s))

pub opens_at : (ls : List LegValue) (cs : List (ℕ × ℕ)) → IsCoupling ls cs →
    map (end_at ls cs) (open_places cs (length ls)) ≡ opens_of (all_ends ls cs) (open_before cs (length ls))
opens_at ls cs good = opens_upto ls cs good (length ls) (omega arith)

-- ---- the bonds of the labels are those of the couples

module _ (ls : List LegValue) (cs : List (ℕ × ℕ)) (good : IsCoupling ls cs) where
  abbrev bond_of : ℕ → Bond
  bond_of i = record { label = label_at cs i; dim = total (leg_at ls i).sectors; twisted = false }

  abbrev is_first : ℕ → Bool
  is_first i = is_inward (leg_at ls i).arrow && is_positive (label_at cs i)

  bonds_by : (xs : List ℕ) → bonds_from [] (map (slot_at (label_at cs) (leg_at ls)) xs) ≡ map bond_of (filter is_first xs)
  bonds_by [] = refl
  bonds_by (x ∷ xs) = go (is_first x) (bonds_by xs)
    where
      go : (b : Bool) → bonds_from [] (map (slot_at (label_at cs) (leg_at ls)) xs) ≡ map bond_of (filter is_first xs) →
          cond b (bond_of x ∷ bonds_from [] (map (slot_at (label_at cs) (leg_at ls)) xs)) (bonds_from [] (map (slot_at (label_at cs) (leg_at ls)) xs))
          ≡ map bond_of (cond b (x ∷ filter is_first xs) (filter is_first xs))
      go true e = ap (λ bs. bond_of x ∷ bs) e
      go false e = e

  open_passes : (xs : List ℕ) → filter is_first (filter (λ i. not (is_coupled cs i)) xs) ≡ []
  open_passes [] = refl
  open_passes (x ∷ xs) = go (is_coupled cs x) refl (open_passes xs)
    where
      none_of : (a b : Bool) → b ≡ false → (a && b) ≡ false
      none_of a b e = grind arith

      go : (b : Bool) → is_coupled cs x ≡ b → filter is_first (filter (λ i. not (is_coupled cs i)) xs) ≡ [] →
          filter is_first (cond (not b) (x ∷ filter (λ i. not (is_coupled cs i)) xs) (filter (λ i. not (is_coupled cs i)) xs)) ≡ []
      go true e ih = ih
      go false e ih =
          ap (λ b. cond b (x ∷ filter is_first (filter (λ i. not (is_coupled cs i)) xs)) (filter is_first (filter (λ i. not (is_coupled cs i)) xs)))
          (none_of (is_inward (leg_at ls x).arrow) (is_positive (label_at cs x)) (ap is_positive (open_label cs x e)))
          ∙ ih

  positive_from : (n : ℕ) → 1 ≤ n → is_positive (pos n) ≡ true
  positive_from n l = grind (arith, nat_tests)

  bonds_couples : (n : ℕ) (ds : List (ℕ × ℕ)) → 1 ≤ n → IsNumbered n ls ds (label_at cs) → map bond_of (filter is_first (goal_couples ls ds)) ≡ bonds_at n ls ds
  bonds_couples n [] l h = refl
  bonds_couples n (d ∷ ds) l h = go (is_first (in_place ls d)) yes (is_first (out_place ls d)) no_more (bonds_couples (suc n) ds (omega arith) (numbered_rest n ls d ds (label_at cs) h))
    where
      e : AreEnds n ls d (label_at cs)
      e = numbered_ends n ls d ds (label_at cs) h

      yes : is_first (in_place ls d) ≡ true
      yes = λ i. (e.first i).inward && positive_at i
        where
          positive_at : is_positive (label_at cs (in_place ls d)) ≡ true
          positive_at = ap (λ (x : End). is_positive x.label) e.first ∙ positive_from n l

      no_more : is_first (out_place ls d) ≡ false
      no_more = λ i. (e.second i).inward && is_positive (label_at cs (out_place ls d))

      go : (b : Bool) → b ≡ true → (c : Bool) → c ≡ false → map bond_of (filter is_first (goal_couples ls ds)) ≡ bonds_at (suc n) ls ds →
          map bond_of (cond b (in_place ls d ∷ cond c (out_place ls d ∷ filter is_first (goal_couples ls ds)) (filter is_first (goal_couples ls ds)))
          (cond c (out_place ls d ∷ filter is_first (goal_couples ls ds)) (filter is_first (goal_couples ls ds))))
          ≡ bonds_at n ls (d ∷ ds)
      go true p false q ih = λ i. record { label = (e.first i).label; dim = total (in_sectors ls d (numbered_first n ls d ds (label_at cs) h) i); twisted = false } ∷ ih i
      go true p true q ih = absurd (false≢true (sym q))
      go false p c q ih = absurd (false≢true p)

  pub bonds_perm : Perm (bonds_of [] (map (slot_at (label_at cs) (leg_at ls)) (positions (length ls)))) (bonds_at 1 ls cs)
  bonds_perm =
      then_by (perm-sym (perm_order (bonds_from [] (map (slot_at (label_at cs) (leg_at ls)) (positions (length ls))))))
      (subst (λ bs. Perm (bonds_from [] (map (slot_at (label_at cs) (leg_at ls)) (positions (length ls)))) bs) (bonds_couples 1 cs (omega arith) (numbered ls cs good))
      (subst (λ bs. Perm bs (map bond_of (filter is_first (goal_couples ls cs)))) (sym (bonds_by (positions (length ls))))
      (perm-map bond_of
      (subst (λ xs. Perm (filter is_first (positions (length ls))) xs) couples_only (perm-filter is_first (perm_goal ls cs good))))))
    where
      couples_only : filter is_first (goal_couples ls cs ++ open_places cs (length ls)) ≡ filter is_first (goal_couples ls cs)
      couples_only =
          filter-append is_first (goal_couples ls cs) (open_places cs (length ls))
          ∙ ap (λ xs. filter is_first (goal_couples ls cs) ++ xs) (open_passes (positions (length ls)))
          ∙ append_none (filter is_first (goal_couples ls cs))
        where
          append_none : (xs : List ℕ) → xs ++ [] ≡ xs
          append_none [] = refl
          append_none (x ∷ xs) = ap (λ ys. x ∷ ys) (append_none xs)

  -- legs with one label have the same sectors
  one_line : (i j : ℕ) → label_at cs i ≡ label_at cs j → (leg_at ls i).sectors ≡ (leg_at ls j).sectors
  one_line i j e = go (is_coupled cs i) refl (is_coupled cs j) refl
    where
      pos_equal : (m n : ℕ) → pos m ≡ pos n → m ≡ n
      pos_equal m n e = cc e

      negsuc_equal : (m n : ℕ) → negsuc m ≡ negsuc n → m ≡ n
      negsuc_equal m n e = cc e

      pos_apart : (m n : ℕ) → pos m ≡ negsuc n → ⊥
      pos_apart m n e = absurd (cc e)

      in_couple : (c : ℕ × ℕ) → IsCouple ls c → (k : ℕ) → (k ≡ c.0) ⊎ (k ≡ c.1) → (leg_at ls k).sectors ≡ (leg_at ls c.0).sectors
      in_couple c h k (inl f) = ap (λ m. (leg_at ls m).sectors) f
      in_couple c h k (inr f) = ap (λ m. (leg_at ls m).sectors) f ∙ sym h.meets.1

      go : (a : Bool) → is_coupled cs i ≡ a → (b : Bool) → is_coupled cs j ≡ b → (leg_at ls i).sectors ≡ (leg_at ls j).sectors
      go true p true q =
          let one : couple_at cs i ≡ couple_at cs j = one_couple 1 cs i j p q (pos_equal (couple_number 1 cs i) (couple_number 1 cs j) (sym (coupled_label cs i p) ∙ e ∙ coupled_label cs j q)) in
          let h : IsCouple ls (couple_at cs i) = couple_passes (IsCouple ls) cs i good.meet p in
          in_couple (couple_at cs i) h i (stands_in cs i p) ∙ sym (in_couple (couple_at cs i) h j (subst (λ c. (j ≡ c.0) ⊎ (j ≡ c.1)) (sym one) (stands_in cs j q)))
      go true p false q = absurd (pos_apart (couple_number 1 cs i) (open_before cs j) (sym (coupled_label cs i p) ∙ e ∙ open_label cs j q))
      go false p true q = absurd (pos_apart (couple_number 1 cs j) (open_before cs i) (sym (coupled_label cs j q) ∙ sym e ∙ open_label cs i p))
      go false p false q =
          let same : open_before cs i ≡ open_before cs j = negsuc_equal (open_before cs i) (open_before cs j) (sym (open_label cs i p) ∙ e ∙ open_label cs j q) in
          order (i == j) refl (nat_lt i j) refl same
        where
          order : (b : Bool) → (i == j) ≡ b → (t : Bool) → nat_lt i j ≡ t → open_before cs i ≡ open_before cs j → (leg_at ls i).sectors ≡ (leg_at ls j).sectors
          order true f t g s = ap (λ m. (leg_at ls m).sectors) (eqb-true i j f)
          order false f true g s = absurd (omega (arith, s, open_grows cs i j p (grind (arith, nat_tests))))
          order false f false g s = absurd (omega (arith, s, open_grows cs j i q (grind (arith, nat_tests))))

  suits : (i : ℕ) (xs : List ℕ) → SuitsAll (slot_at (label_at cs) (leg_at ls) i) (map (slot_at (label_at cs) (leg_at ls)) xs)
  suits i [] = tt
  suits i (x ∷ xs) = ((λ e. one_line x i e), suits i xs)

  pub uniform : (xs : List ℕ) → IsUniform (map (slot_at (label_at cs) (leg_at ls)) xs)
  uniform [] = tt
  uniform (x ∷ xs) = (suits x xs, uniform xs)
