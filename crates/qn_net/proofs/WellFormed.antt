-- Members whose labels have no fault are a well-formed network.
use Rattle.std.proofs.Common.{◌≡◌, ◌≢◌, ◌≤◌, ◌<◌, ℕ, zero, suc, ◌+◌, ℤ, pos, negsuc, Bool, true, false, not, ◌&&◌, ◌||◌, cond, Option, Some, None, List, [], ◌∷◌, ◌++◌, append-nil, length, take, get_or, map, nat_lt, refl, sym, ◌∙◌, ap, ap₂, subst, ◌⊎◌, inl, inr, int_eq, int_lt, arith}
use Rattle.std.specs.List.{All, Contains}
use Rattle.std.proofs.lemmas.Bool.{false≢true, cases_eq, cases_lt, or_cases, or_left, or_right, and_parts}
use Rattle.std.proofs.lemmas.Bool.Decides.{nat_tests}
use Rattle.std.proofs.lemmas.List.{get_or_default}
use Rattle.qn_sign.specs.Sign.{is_in, IsDistinct}
use Rattle.qn_charge.specs.declared.factor.Factor.{Factor}
use Rattle.qn_charge.specs.Charges.{IsGroup}
use Rattle.qn_charge.specs.Firsts.{HasNone}
use Rattle.qn_index.specs.Legs.{SectorValue}
use Rattle.qn_value.specs.Tensors.{IsTensor}
use Rattle.qn_value.specs.Networks.{End, same_end}
use Rattle.qn_value.specs.Labels.{Slot, slots, ends, AllPlaced, is_positive, SuitsAll, IsUniform, IsWellLabelled}
use Rattle.qn_value.proofs.Sums.{label_test}
use Rattle.qn_value.proofs.NetLaws.{end_test}
use Rattle.qn_value.proofs.PlacedLemmas.{all_first, all_others}
use Rattle.qn_block.proofs.Entries.{is_tensor}
use Rattle.qn_block.proofs.TableRows.{fuse_is_tensor, split_is_tensor}
use Rattle.qn_net.specs.Members.{MemberValue, LabelledMember, member_tensor, placed_member, slots_of_members, ends_of_members, IsHeld, IsMemberOf}
use Rattle.qn_net.specs.Members.MemberValue.{own, fuse, split}
use Rattle.qn_net.specs.NetworkValues.{PlacedMember, legs_of, open_count, IsOrderOf, IsWellFormed}
use Rattle.qn_net.specs.Refusals.{label_at, legs_with, tally, slot_at, IsNoPositive, BadPlaceAt, LacksLabel, AreLabelled, IsGoodOrder, AreGoodTwists, IsFaultless, positives_below, positives, order_or, network_of}
use Rattle.qn_net.specs.Tables.{HasLabel, end_at}
use Rattle.qn_net.proofs.TableLemmas.{legs_are_ends}
use Rattle.qn_net.proofs.LineLemmas.{none_zero, none_above, positives_all}
use Rattle.qn_net.proofs.LabelledLemmas.{have_labels}
use Rattle.qn_net.proofs.MeetingLemmas.{labels_long, weight, counts, tally-cons, with-cons, one_each, slot_end, ends_long}
use Rattle.qn_net.proofs.OpenLemmas.{positive_suc, stands_below, below_open, no_weight}
use Rattle.qn_facts.proofs.Booleans.{same_tests}

-- ends in a list, and how often they stand

pub turned : (e f : End) → same_end e f ≡ true → same_end f e ≡ true
turned e f h = ap (λ x. same_end x e) (sym (end_test.equal e f h)) ∙ end_test.itself e

pub in_stands : (e : End) (es : List End) → is_in same_end e es ≡ true → 0 < tally e es
in_stands e [] h = absurd (false≢true h)
in_stands e (x ∷ es) h = go (or_cases (same_end e x) (is_in same_end e es) h) (in_stands e es)
  where
    s : tally e (x ∷ es) ≡ weight (same_end x e) + tally e es
    s = tally-cons e x es

    go : (same_end e x ≡ true) ⊎ (is_in same_end e es ≡ true) → (is_in same_end e es ≡ true → 0 < tally e es) → 0 < tally e (x ∷ es)
    go (inl q) ih = let w : weight (same_end x e) ≡ 1 = counts (same_end x e) (turned e x q) in omega (arith, s, w)
    go (inr q) ih = let r : 0 < tally e es = ih q in omega (arith, s, r)

stands_in : (e : End) (es : List End) → 0 < tally e es → is_in same_end e es ≡ true
stands_in e [] h = let z : tally e [] ≡ 0 = refl in absurd (omega (arith, z, h))
stands_in e (x ∷ es) h = go (same_end x e) refl (stands_in e es)
  where
    s : tally e (x ∷ es) ≡ weight (same_end x e) + tally e es
    s = tally-cons e x es

    go : (b : Bool) → same_end x e ≡ b → (0 < tally e es → is_in same_end e es ≡ true) → (same_end e x || is_in same_end e es) ≡ true
    go true q ih = or_left (same_end e x) (is_in same_end e es) (turned x e q)
    go false q ih = let w : weight (same_end x e) ≡ 0 = no_weight (same_end x e) q in or_right (same_end e x) (is_in same_end e es) (ih (omega (arith, s, w, h)))

not_in : (e : End) (es : List End) → tally e es ≡ 0 → is_in same_end e es ≡ false
not_in e es z = go (is_in same_end e es) refl
  where
    go : (b : Bool) → is_in same_end e es ≡ b → b ≡ false
    go false q = refl
    go true q = let r : 0 < tally e es = in_stands e es q in absurd (omega (arith, r, z))

distinct_from : (es : List End) → ((e : End) → tally e es ≤ 1) → IsDistinct same_end es
distinct_from [] h = tt
distinct_from (x ∷ es) h =
    let s : tally x (x ∷ es) ≡ weight (same_end x x) + tally x es = tally-cons x x es in
    let w : weight (same_end x x) ≡ 1 = counts (same_end x x) (end_test.itself x) in
    let l : tally x (x ∷ es) ≤ 1 = h x in
    (not_in x es (omega (arith, s, w, l)), distinct_from es (λ e. let t : tally e (x ∷ es) ≡ weight (same_end x e) + tally e es = tally-cons e x es in let m : tally e (x ∷ es) ≤ 1 = h e in omega (arith, t, m)))

-- a label that stands once at most has one place
with_twice : (x : End) (es : List End) (l : ℤ) (j : ℕ) → legs_with l (x ∷ es) ≤ 1 → j < length es → x.label ≡ l → (end_at es j).label ≡ l → ⊥
with_twice x es l j t m h k =
    let s : legs_with l (x ∷ es) ≡ weight (int_eq x.label l) + legs_with l es = with-cons l x es in
    let u : weight (int_eq x.label l) ≡ 1 = counts (int_eq x.label l) (ap (λ i. int_eq i l) h ∙ label_test.itself l) in
    let r : 0 < legs_with l es = there es j m k in
    absurd (omega (arith, s, u, r, t))
  where
    there : (es : List End) (j : ℕ) → j < length es → (end_at es j).label ≡ l → 0 < legs_with l es
    there [] j m k = absurd (omega arith)
    there (y ∷ es) zero m k =
        let s : legs_with l (y ∷ es) ≡ weight (int_eq y.label l) + legs_with l es = with-cons l y es in
        let u : weight (int_eq y.label l) ≡ 1 = counts (int_eq y.label l) (ap (λ i. int_eq i l) k ∙ label_test.itself l) in
        omega (arith, s, u)
    there (y ∷ es) (suc j) m k =
        let s : legs_with l (y ∷ es) ≡ weight (int_eq y.label l) + legs_with l es = with-cons l y es in
        let r : 0 < legs_with l es = there es j (omega arith) k in
        omega (arith, s, r)

with_once : (es : List End) (l : ℤ) (i j : ℕ) → legs_with l es ≤ 1 → i < length es → j < length es → (end_at es i).label ≡ l → (end_at es j).label ≡ l → i ≡ j
with_once [] l i j t a b h k = absurd (omega arith)
with_once (x ∷ es) l zero zero t a b h k = refl
with_once (x ∷ es) l zero (suc j) t a b h k = absurd (with_twice x es l j t (omega arith) h k)
with_once (x ∷ es) l (suc i) zero t a b h k = absurd (with_twice x es l i t (omega arith) k h)
with_once (x ∷ es) l (suc i) (suc j) t a b h k =
    let s : legs_with l (x ∷ es) ≡ weight (int_eq x.label l) + legs_with l es = with-cons l x es in
    let r : i ≡ j = with_once es l i j (omega (arith, s, t)) (omega arith) (omega arith) h k in
    omega (arith, r)

-- two lists of sectors are the same or not

ints_decided : (a b : List ℤ) → (a ≡ b) ⊎ (a ≢ b)
ints_decided [] [] = inl refl
ints_decided [] (y ∷ b) = inr (λ e. apart e)
  where
    apart : [] ≡ y ∷ b → ⊥
    apart e = cc
ints_decided (x ∷ a) [] = inr (λ e. apart e)
  where
    apart : x ∷ a ≡ [] → ⊥
    apart e = cc
ints_decided (x ∷ a) (y ∷ b) = go (int_eq x y) refl (ints_decided a b)
  where
    first_of_two : x ∷ a ≡ y ∷ b → x ≡ y
    first_of_two e = cc

    others_of_two : x ∷ a ≡ y ∷ b → a ≡ b
    others_of_two e = cc

    go : (t : Bool) → int_eq x y ≡ t → (a ≡ b) ⊎ (a ≢ b) → (x ∷ a ≡ y ∷ b) ⊎ (x ∷ a ≢ y ∷ b)
    go true q (inl e) = inl (ap₂ ◌∷◌ (label_test.equal x y q) e)
    go true q (inr n) = inr (λ e. n (others_of_two e))
    go false q _ = inr (λ e. false≢true (sym q ∙ ap (λ z. int_eq z y) (first_of_two e) ∙ label_test.itself y))

sectors_decided : (a b : List SectorValue) → (a ≡ b) ⊎ (a ≢ b)
sectors_decided [] [] = inl refl
sectors_decided [] (y ∷ b) = inr (λ e. apart e)
  where
    apart : [] ≡ y ∷ b → ⊥
    apart e = cc
sectors_decided (x ∷ a) [] = inr (λ e. apart e)
  where
    apart : x ∷ a ≡ [] → ⊥
    apart e = cc
sectors_decided (x ∷ a) (y ∷ b) = go (ints_decided x.charge y.charge) (cases_eq x.dim y.dim) (sectors_decided a b)
  where
    first_of_two : x ∷ a ≡ y ∷ b → x ≡ y
    first_of_two e = cc

    others_of_two : x ∷ a ≡ y ∷ b → a ≡ b
    others_of_two e = cc

    go : (x.charge ≡ y.charge) ⊎ (x.charge ≢ y.charge) → (x.dim ≡ y.dim) ⊎ (x.dim ≢ y.dim) → (a ≡ b) ⊎ (a ≢ b) → (x ∷ a ≡ y ∷ b) ⊎ (x ∷ a ≢ y ∷ b)
    go (inl p) (inl q) (inl e) = inl (ap₂ ◌∷◌ (λ i. record { charge = p i; dim = q i }) e)
    go (inr n) _ _ = inr (λ e. n (ap (λ (s : SectorValue). s.charge) (first_of_two e)))
    go (inl p) (inr n) _ = inr (λ e. n (ap (λ (s : SectorValue). s.dim) (first_of_two e)))
    go (inl p) (inl q) (inr n) = inr (λ e. n (others_of_two e))

suits : (s : Slot) (ts : List Slot) → ((j : ℕ) → j < length ts → (slot_at ts j).end.label ≡ s.end.label → (slot_at ts j).sectors ≡ s.sectors) → SuitsAll s ts
suits s [] h = tt
suits s (t ∷ ts) h = (h 0 (omega arith), suits s ts (λ j l. h (suc j) (omega arith)))

uniform_from : (ss : List Slot) → ((i j : ℕ) → i < length ss → j < length ss → (slot_at ss i).end.label ≡ (slot_at ss j).end.label → (slot_at ss i).sectors ≡ (slot_at ss j).sectors) → IsUniform ss
uniform_from [] h = tt
uniform_from (s ∷ ss) h = (suits s ss (λ j l e. h (suc j) 0 (omega arith) (omega arith) e), uniform_from ss (λ i j a b. h (suc i) (suc j) (omega arith) (omega arith)))

-- the labels of an order

pub in_contains : (xs : List ℤ) (l : ℤ) → is_in int_eq l xs ≡ true → Contains xs l
in_contains [] l h = absurd (false≢true h)
in_contains (x ∷ xs) l h = go (or_cases (int_eq l x) (is_in int_eq l xs) h) (in_contains xs l)
  where
    go : (int_eq l x ≡ true) ⊎ (is_in int_eq l xs ≡ true) → (is_in int_eq l xs ≡ true → Contains xs l) → Contains (x ∷ xs) l
    go (inl q) ih = (0, omega arith, sym (label_test.equal l x q))
    go (inr q) ih = let c = ih q in (suc c.0, omega (arith, c.1), c.2)

contains_in : (xs : List ℤ) (l : ℤ) (k : ℕ) → k < length xs → get_or xs k l ≡ l → is_in int_eq l xs ≡ true
contains_in [] l k h e = absurd (omega arith)
contains_in (x ∷ xs) l zero h e = or_left (int_eq l x) (is_in int_eq l xs) (ap (int_eq l) e ∙ label_test.itself l)
contains_in (x ∷ xs) l (suc k) h e = or_right (int_eq l x) (is_in int_eq l xs) (contains_in xs l k (omega arith) e)

distinct_order : (xs : List ℤ) → ((i : ℕ) → i < length xs → Contains (take i xs) (label_at xs i) → ⊥) → IsDistinct int_eq xs
distinct_order [] h = tt
distinct_order (x ∷ xs) h = (go (is_in int_eq x xs) refl, distinct_order xs (λ i l c. h (suc i) (omega arith) (suc c.0, omega (arith, c.1), c.2)))
  where
    go : (b : Bool) → is_in int_eq x xs ≡ b → b ≡ false
    go false q = refl
    go true q =
        let c = in_contains xs x q in
        let e : label_at xs c.0 ≡ x = get_or_default xs c.0 (pos 0) x c.1 ∙ c.2 in
        absurd (h (suc c.0) (omega (arith, c.1)) (0, omega arith, sym e))

pub push_distinct : (xs : List ℤ) (y : ℤ) → IsDistinct int_eq xs → is_in int_eq y xs ≡ false → IsDistinct int_eq (xs ++ y ∷ [])
push_distinct [] y d h = (refl, tt)
push_distinct (x ∷ xs) y d h = (
  push_in x xs d.0 (go (int_eq x y) refl),
  push_distinct xs y d.1 (parts (int_eq y x) (is_in int_eq y xs) h),
)
  where
    parts : (p q : Bool) → (p || q) ≡ false → q ≡ false
    parts p q e = grind arith

    first_part : (p q : Bool) → (p || q) ≡ false → p ≡ false
    first_part p q e = grind arith

    go : (b : Bool) → int_eq x y ≡ b → b ≡ false
    go false q = refl
    go true q = sym (label_test.itself y) ∙ ap (int_eq y) (sym (label_test.equal x y q)) ∙ first_part (int_eq y x) (is_in int_eq y xs) h

    push_in : (x : ℤ) (zs : List ℤ) → is_in int_eq x zs ≡ false → int_eq x y ≡ false → is_in int_eq x (zs ++ y ∷ []) ≡ false
    push_in x [] e f = ap (λ b. b || false) f
    push_in x (z ∷ zs) e f = ap₂ ◌||◌ (first_part (int_eq x z) (is_in int_eq x zs) e) (push_in x zs (parts (int_eq x z) (is_in int_eq x zs) e) f)

push_cases : (l : ℤ) (xs : List ℤ) (y : ℤ) → is_in int_eq l (xs ++ y ∷ []) ≡ (is_in int_eq l xs || int_eq l y)
push_cases l [] y = none (int_eq l y)
  where
    none : (b : Bool) → (b || false) ≡ b
    none b = grind arith
push_cases l (x ∷ xs) y = ap (λ b. int_eq l x || b) (push_cases l xs y) ∙ shift (int_eq l x) (is_in int_eq l xs) (int_eq l y)
  where
    shift : (p q r : Bool) → (p || (q || r)) ≡ ((p || q) || r)
    shift p q r = grind arith

-- what follows from labels without a fault

module _ (ms : List LabelledMember) (l : AreLabelled ms) where
  abbrev es : List End
  es = ends_of_members ms

  abbrev ss : List Slot
  ss = slots_of_members ms

  all_labels : All HasLabel es
  all_labels = have_labels ms l.0.0.0.0

  single : (k : ℕ) → legs_with (negsuc k) es ≤ 1
  single k = low (legs_with (negsuc k) es) (l.0.0.0.2 k)
    where
      low : (m : ℕ) → (1 < m → ⊥) → m ≤ 1
      low m h = omega (arith, h)

  no_gap : (n k : ℕ) → legs_with (negsuc n) es ≡ 0 → n < k → 0 < legs_with (negsuc k) es → ⊥
  no_gap n k z m s = l.1 n (z, (k, m, s))

  small : (k : ℤ) (i : Bool) → tally (record { label = k; inward = i }) es ≤ 1
  small (pos n) true = low (tally (record { label = pos n; inward = true }) es) (λ t. l.0.0.1 n (inl t))
    where
      low : (m : ℕ) → (1 < m → ⊥) → m ≤ 1
      low m h = omega (arith, h)
  small (pos n) false = low (tally (record { label = pos n; inward = false }) es) (λ t. l.0.0.1 n (inr t))
    where
      low : (m : ℕ) → (1 < m → ⊥) → m ≤ 1
      low m h = omega (arith, h)
  small (negsuc n) true = let s = legs_are_ends (negsuc n) es in let t = single n in omega (arith, s, t)
  small (negsuc n) false = let s = legs_are_ends (negsuc n) es in let t = single n in omega (arith, s, t)

  in_pairs : (k : ℤ) → is_positive k ≡ true → is_in same_end (record { label = k; inward = true }) es ≡ is_in same_end (record { label = k; inward = false }) es
  in_pairs (negsuc n) p = absurd (false≢true p)
  in_pairs (pos n) p = go (cases_eq (legs_with (pos n) es) 0)
    where
      go : (legs_with (pos n) es ≡ 0) ⊎ (legs_with (pos n) es ≢ 0) → is_in same_end (record { label = pos n; inward = true }) es ≡ is_in same_end (record { label = pos n; inward = false }) es
      go (inl z) =
          let s = legs_are_ends (pos n) es in
          not_in (record { label = pos n; inward = true }) es (omega (arith, s, z)) ∙ sym (not_in (record { label = pos n; inward = false }) es (omega (arith, s, z)))
      go (inr z) =
          let o = one_each es n l.0.0.0.1 l.0.0.1 (omega (arith, z)) in
          stands_in (record { label = pos n; inward = true }) es (omega (arith, o.0)) ∙ sym (stands_in (record { label = pos n; inward = false }) es (omega (arith, o.1)))

  open_one : (i : ℕ) → i < open_count es → is_in same_end (record { label = negsuc i; inward = true }) es ≡ not (is_in same_end (record { label = negsuc i; inward = false }) es)
  open_one i m = go (cases_eq (tally (record { label = negsuc i; inward = true }) es) 0)
    where
      here : 0 < legs_with (negsuc i) es
      here = stands_below es (none_zero es all_labels) single no_gap i m

      go : (tally (record { label = negsuc i; inward = true }) es ≡ 0) ⊎ (tally (record { label = negsuc i; inward = true }) es ≢ 0) →
          is_in same_end (record { label = negsuc i; inward = true }) es ≡ not (is_in same_end (record { label = negsuc i; inward = false }) es)
      go (inl z) =
          let s = legs_are_ends (negsuc i) es in
          not_in (record { label = negsuc i; inward = true }) es z ∙ sym (ap not (stands_in (record { label = negsuc i; inward = false }) es (omega (arith, s, z, here))))
      go (inr z) =
          let s = legs_are_ends (negsuc i) es in
          let t = single i in
          stands_in (record { label = negsuc i; inward = true }) es (omega (arith, z)) ∙ sym (ap not (not_in (record { label = negsuc i; inward = false }) es (omega (arith, s, z, t))))

  no_other : (k : ℤ) (b : Bool) → 0 < tally (record { label = k; inward = b }) es → (is_positive k ≡ true) ⊎ ((i : ℕ) × (i < open_count es) × (k ≡ negsuc i))
  no_other (pos zero) b h = absurd (none b h)
    where
      none : (b : Bool) → 0 < tally (record { label = pos 0; inward = b }) es → ⊥
      none true h = let s = legs_are_ends (pos 0) es in let z = none_zero es all_labels in absurd (omega (arith, s, z, h))
      none false h = let s = legs_are_ends (pos 0) es in let z = none_zero es all_labels in absurd (omega (arith, s, z, h))
  no_other (pos (suc n)) b h = inl (positive_suc n)
  no_other (negsuc k) b h = inr (k, below_open es no_gap k (stands b h), refl)
    where
      stands : (b : Bool) → 0 < tally (record { label = negsuc k; inward = b }) es → 0 < legs_with (negsuc k) es
      stands true h = let s = legs_are_ends (negsuc k) es in omega (arith, s, h)
      stands false h = let s = legs_are_ends (negsuc k) es in omega (arith, s, h)

  pub well_labelled : IsWellLabelled es (open_count es)
  well_labelled = record {
    distinct = distinct_from es (λ e. small e.label e.inward);
    paired = in_pairs;
    open_once = open_one;
    no_more = λ e h. no_other e.label e.inward (in_stands e es h);
  }

  same_at : (i j : ℕ) → i < length ss → j < length ss → (k : ℤ) → (slot_at ss i).end.label ≡ k → (slot_at ss j).end.label ≡ k → (slot_at ss i).sectors ≡ (slot_at ss j).sectors
  same_at i j a b (pos n) p q = go (sectors_decided (slot_at ss i).sectors (slot_at ss j).sectors)
    where
      go : ((slot_at ss i).sectors ≡ (slot_at ss j).sectors) ⊎ ((slot_at ss i).sectors ≢ (slot_at ss j).sectors) → (slot_at ss i).sectors ≡ (slot_at ss j).sectors
      go (inl e) = e
      go (inr d) = absurd (l.0.1 n (i, j, a, b, p, q, d))
  same_at i j a b (negsuc n) p q =
      ap (λ k. (slot_at ss k).sectors)
      (with_once es (negsuc n) i j (single n) (subst (λ m. i < m) (sym (ends_long ss)) a) (subst (λ m. j < m) (sym (ends_long ss)) b)
      (ap (λ (e : End). e.label) (slot_end ss i) ∙ p) (ap (λ (e : End). e.label) (slot_end ss j) ∙ q))

  pub uniform : IsUniform ss
  uniform = uniform_from ss (λ i j a b e. same_at i j a b (slot_at ss j).end.label e refl)

  -- a positive label that stands has an inward leg, and the other way round
  inward_of : (n : ℕ) → 0 < legs_with (pos n) es → is_in same_end (record { label = pos n; inward = true }) es ≡ true
  inward_of n h = let o = one_each es n l.0.0.0.1 l.0.0.1 h in stands_in (record { label = pos n; inward = true }) es (omega (arith, o.0))

  stands_of : (n : ℕ) → is_in same_end (record { label = pos n; inward = true }) es ≡ true → 0 < legs_with (pos n) es
  stands_of n h = let t = in_stands (record { label = pos n; inward = true }) es h in let s = legs_are_ends (pos n) es in omega (arith, t, s)

  positive_of : (n : ℕ) → 0 < legs_with (pos n) es → is_positive (pos n) ≡ true
  positive_of zero h = let z = none_zero es all_labels in absurd (omega (arith, z, h))
  positive_of (suc n) h = positive_suc n

  -- an order with all positive labels that stand, and no other ones
  order_from : (order : List ℤ) → IsDistinct int_eq order → ((k : ℤ) → is_in int_eq k order ≡ true → (n : ℕ) × (k ≡ pos n) × (0 < legs_with (pos n) es)) →
      ((n : ℕ) → 0 < legs_with (pos n) es → is_in int_eq (pos n) order ≡ true) → IsOrderOf es order
  order_from order d f g = record { distinct = d; positive = λ k. same_tests (is_in int_eq k order) (is_positive k && is_in same_end (record { label = k; inward = true }) es) (to k) (back k) }
    where
      to : (k : ℤ) → is_in int_eq k order ≡ true → (is_positive k && is_in same_end (record { label = k; inward = true }) es) ≡ true
      to k h = let w = f k h in subst (λ j. (is_positive j && is_in same_end (record { label = j; inward = true }) es) ≡ true) (sym w.1) (ap₂ ◌&&◌ (positive_of w.0 w.2) (inward_of w.0 w.2))

      back : (k : ℤ) → (is_positive k && is_in same_end (record { label = k; inward = true }) es) ≡ true → is_in int_eq k order ≡ true
      back (pos n) h = g n (stands_of n (and_parts (is_positive (pos n)) (is_in same_end (record { label = pos n; inward = true }) es) h).1)
      back (negsuc n) h = absurd (false≢true h)

  -- the labels of a list in which each is a positive one that stands
  found : (ls : List ℤ) → ((i : ℕ) → i < length ls → IsNoPositive es (label_at ls i) → ⊥) → (k : ℤ) → Contains ls k → (n : ℕ) × (k ≡ pos n) × (0 < legs_with (pos n) es)
  found ls good k c = at k refl
    where
      here : label_at ls c.0 ≡ k
      here = get_or_default ls c.0 (pos 0) k c.1 ∙ c.2

      at : (j : ℤ) → k ≡ j → (n : ℕ) × (k ≡ pos n) × (0 < legs_with (pos n) es)
      at (negsuc n) e = absurd (good c.0 c.1 (subst (IsNoPositive es) (sym (here ∙ e)) tt))
      at (pos n) e = (n, e, by (cases_eq (legs_with (pos n) es) 0))
        where
          by : (legs_with (pos n) es ≡ 0) ⊎ (legs_with (pos n) es ≢ 0) → 0 < legs_with (pos n) es
          by (inl z) = absurd (good c.0 c.1 (subst (IsNoPositive es) (sym (here ∙ e)) z))
          by (inr z) = omega (arith, z)

  -- twisted labels are in the order, and ascend
  twists_ordered : (order tw : List ℤ) → IsOrderOf es order → AreGoodTwists es tw → (k : ℤ) → is_in int_eq k tw ≡ true → is_in int_eq k order ≡ true
  twists_ordered order tw o good k h =
      let w = found tw (λ i m p. good i (m, inl p)) k (in_contains tw k h) in
      o.positive k
      ∙ subst (λ j. (is_positive j && is_in same_end (record { label = j; inward = true }) es) ≡ true) (sym w.1) (ap₂ ◌&&◌ (positive_of w.0 w.2) (inward_of w.0 w.2))

  twists_ascend : (tw : List ℤ) → AreGoodTwists es tw → (i : ℕ) → suc i < length tw → int_lt (label_at tw i) (label_at tw (suc i)) ≡ true
  twists_ascend tw good i lt = go (int_lt (label_at tw i) (label_at tw (suc i))) refl
    where
      go : (b : Bool) → int_lt (label_at tw i) (label_at tw (suc i)) ≡ b → int_lt (label_at tw i) (label_at tw (suc i)) ≡ true
      go true e = e
      go false e = absurd (good (suc i) (lt, inr e))

  given_order : (order : List ℤ) → HasNone (BadPlaceAt es order) → (LacksLabel es order → ⊥) → IsOrderOf es order
  given_order order good full =
      order_from order (distinct_order order (λ i m c. good i (m, inr c))) (λ k h. found order (λ i m p. good i (m, inl p)) k (in_contains order k h)) (λ n h. all n h (is_in int_eq (pos n) order) refl)
    where
      all : (n : ℕ) → 0 < legs_with (pos n) es → (b : Bool) → is_in int_eq (pos n) order ≡ b → is_in int_eq (pos n) order ≡ true
      all n h true q = q
      all n h false q = absurd (full (n, h, (λ c. false≢true (sym q ∙ contains_in order (pos n) c.0 c.1 c.2))))

  -- the positive labels below m
  below_from : (m : ℕ) (k : ℤ) → is_in int_eq k (positives_below es m) ≡ true → (n : ℕ) × (n < m) × (k ≡ pos n) × (0 < legs_with (pos n) es)
  below_from zero k h = absurd (false≢true h)
  below_from (suc m) k h = go (nat_lt 0 (legs_with (pos m) es)) refl h (below_from m k)
    where
      stands : nat_lt 0 (legs_with (pos m) es) ≡ true → 0 < legs_with (pos m) es
      stands e = at (cases_eq (legs_with (pos m) es) 0)
        where
          at : (legs_with (pos m) es ≡ 0) ⊎ (legs_with (pos m) es ≢ 0) → 0 < legs_with (pos m) es
          at (inl z) = absurd (false≢true (sym (ap (nat_lt 0) z) ∙ e))
          at (inr z) = omega (arith, z)

      go : (b : Bool) → nat_lt 0 (legs_with (pos m) es) ≡ b → is_in int_eq k (positives_below es m ++ cond b (pos m ∷ []) []) ≡ true →
          (is_in int_eq k (positives_below es m) ≡ true → (n : ℕ) × (n < m) × (k ≡ pos n) × (0 < legs_with (pos n) es)) → (n : ℕ) × (n < suc m) × (k ≡ pos n) × (0 < legs_with (pos n) es)
      go true e i ih = at (or_cases (is_in int_eq k (positives_below es m)) (int_eq k (pos m)) (sym (push_cases k (positives_below es m) (pos m)) ∙ i))
        where
          at : (is_in int_eq k (positives_below es m) ≡ true) ⊎ (int_eq k (pos m) ≡ true) → (n : ℕ) × (n < suc m) × (k ≡ pos n) × (0 < legs_with (pos n) es)
          at (inl q) = let w = ih q in (w.0, omega (arith, w.1), w.2, w.3)
          at (inr q) = (m, omega arith, label_test.equal k (pos m) q, stands e)
      go false e i ih = let w = ih (ap (is_in int_eq k) (sym (append-nil (positives_below es m))) ∙ i) in (w.0, omega (arith, w.1), w.2, w.3)

  below_to : (m n : ℕ) → n < m → 0 < legs_with (pos n) es → is_in int_eq (pos n) (positives_below es m) ≡ true
  below_to zero n h s = absurd (omega arith)
  below_to (suc m) n h s = go (nat_lt 0 (legs_with (pos m) es)) refl (cases_eq n m) (below_to m n)
    where
      go : (b : Bool) → nat_lt 0 (legs_with (pos m) es) ≡ b → (n ≡ m) ⊎ (n ≢ m) → (n < m → 0 < legs_with (pos n) es → is_in int_eq (pos n) (positives_below es m) ≡ true) →
          is_in int_eq (pos n) (positives_below es m ++ cond b (pos m ∷ []) []) ≡ true
      go true e (inl q) ih =
          push_cases (pos n) (positives_below es m) (pos m)
          ∙ or_right (is_in int_eq (pos n) (positives_below es m)) (int_eq (pos n) (pos m)) (ap (λ k. int_eq (pos n) (pos k)) (sym q) ∙ label_test.itself (pos n))
      go true e (inr q) ih =
          push_cases (pos n) (positives_below es m) (pos m) ∙ or_left (is_in int_eq (pos n) (positives_below es m)) (int_eq (pos n) (pos m)) (ih (omega (arith, q, h)) s)
      go false e (inl q) ih = absurd (false≢true (sym e ∙ there (legs_with (pos m) es) (subst (λ k. 0 < legs_with (pos k) es) q s)))
        where
          there : (x : ℕ) → 0 < x → nat_lt 0 x ≡ true
          there x l = grind (arith, nat_tests)
      go false e (inr q) ih = ap (is_in int_eq (pos n)) (append-nil (positives_below es m)) ∙ ih (omega (arith, q, h)) s

  below_distinct : (m : ℕ) → IsDistinct int_eq (positives_below es m)
  below_distinct zero = tt
  below_distinct (suc m) = go (nat_lt 0 (legs_with (pos m) es)) (below_distinct m)
    where
      number : {i j : ℕ} → pos i ≡ pos j → i ≡ j
      number e = cc

      new : (b : Bool) → is_in int_eq (pos m) (positives_below es m) ≡ b → b ≡ false
      new false q = refl
      new true q = let w = below_from m (pos m) q in let e : m ≡ w.0 = number w.2 in absurd (omega (arith, e, w.1))

      go : (b : Bool) → IsDistinct int_eq (positives_below es m) → IsDistinct int_eq (positives_below es m ++ cond b (pos m ∷ []) [])
      go true ih = push_distinct (positives_below es m) (pos m) ih (new (is_in int_eq (pos m) (positives_below es m)) refl)
      go false ih = subst (IsDistinct int_eq) (sym (append-nil (positives_below es m))) ih

  own_order : (m : ℕ) → m ≡ 1025 → IsOrderOf es (positives es)
  own_order m e =
      subst (IsOrderOf es) (positives_all es m (positives_below es m) e refl)
      (order_from (positives_below es m) (below_distinct m) (λ k h. let w = below_from m k h in (w.0, w.2, w.3)) (λ n h. below_to m n (range n h (cases_lt 1024 n)) h))
    where
      range : (n : ℕ) → 0 < legs_with (pos n) es → (1024 < n) ⊎ (n ≤ 1024) → n < m
      range n h (inl g) = let z = none_above es all_labels n g in absurd (omega (arith, z, h))
      range n h (inr g) = omega (arith, e, g)

  pub order_of : (order : Option (List ℤ)) → IsGoodOrder es order → IsOrderOf es (order_or es order)
  order_of None h = own_order 1025 refl
  order_of (Some order) h = given_order order h.0 h.1

-- the members in the network

pub tensor_held : (m : MemberValue) → IsHeld m → IsTensor (member_tensor m)
tensor_held (own t) h = is_tensor t h
tensor_held (fuse c) h = fuse_is_tensor c h
tensor_held (split c) h = split_is_tensor c h

all_placed : (fs : List Factor) (ms : List LabelledMember) → All (IsMemberOf fs) ms → All (λ m. IsHeld m.member) ms → ((i : ℕ) (m : LabelledMember) → i < length ms → get_or ms i m ≡ m → length m.labels ≡ length (member_tensor m.member).legs) →
    AllPlaced fs (map (λ m. m.placed) (map placed_member ms))
all_placed fs [] h k n = tt
all_placed fs (m ∷ ms) h k n = (
  record {
    group = (all_first (IsMemberOf fs) m ms h).group;
    tensor = tensor_held m.member (all_first (λ m. IsHeld m.member) m ms k);
    labels = n 0 m (omega arith) refl;
  },
  all_placed fs ms (all_others (IsMemberOf fs) m ms h) (all_others (λ m. IsHeld m.member) m ms k) (λ i j l e. n (suc i) j (omega arith) e),
)

same_placed : (ms : List LabelledMember) → map (λ (m : PlacedMember). m.placed) (map placed_member ms) ≡ map (λ m. (placed_member m).placed) ms
same_placed [] = refl
same_placed (m ∷ ms) = ap (λ ps. (placed_member m).placed ∷ ps) (same_placed ms)

placed_long : (ms : List LabelledMember) → length (map placed_member ms) ≡ length ms
placed_long [] = refl
placed_long (m ∷ ms) = let e : length (map placed_member ms) ≡ length ms = placed_long ms in omega (arith, e)

pub well_formed : (fs : List Factor) (ms : List LabelledMember) (order : Option (List ℤ)) (twist : List ℤ) → IsGroup fs → 0 < length ms → All (IsMemberOf fs) ms → All (λ m. IsHeld m.member) ms →
    IsFaultless ms order twist → IsWellFormed (network_of fs ms order twist)
well_formed fs ms order twist group some members held f =
    let same : slots_of_members ms ≡ legs_of (network_of fs ms order twist) = ap slots (sym (same_placed ms)) in
    let ordered : IsOrderOf (ends_of_members ms) (order_or (ends_of_members ms) order) = order_of ms f.0 order f.1 in
    record {
      group = group;
      some = subst (λ n. 0 < n) (sym (placed_long ms)) some;
      placed = all_placed fs ms members held (labels_long ms f.0.0.0.0.0);
      labelled = subst (λ ss. IsWellLabelled (ends ss) (open_count (ends ss))) same (well_labelled ms f.0);
      uniform = subst IsUniform same (uniform ms f.0);
      order = subst (λ ss. IsOrderOf (ends ss) (order_or (ends_of_members ms) order)) same ordered;
      twists = twists_ordered ms f.0 (order_or (ends_of_members ms) order) twist ordered f.2;
      ascending = twists_ascend ms f.0 twist f.2;
    }
