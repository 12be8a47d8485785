-- Members whose labels are well formed, with an order of these and twisted ones among them, have no fault of labels, arrows, sectors, order or twisted labels.
use Rattle.std.proofs.Common.{◌≡◌, ◌≤◌, ◌<◌, ℕ, zero, suc, ◌+◌, ℤ, pos, negsuc, Bool, true, false, not, ◌&&◌, ◌||◌, Some, List, [], ◌∷◌, length, take, get_or, refl, sym, ◌∙◌, ap, ap₂, ◌⊎◌, inl, inr, int_eq, int_lt, arith}
use Rattle.std.specs.List.{All, Contains}
use Rattle.std.proofs.lemmas.Bool.{false≢true, or_cases, and_parts}
use Rattle.qn_sign.specs.Sign.{is_in, IsDistinct}
use Rattle.qn_sign.proofs.Positions.{is_in-at}
use Rattle.qn_charge.specs.Firsts.{HasNone}
use Rattle.qn_value.specs.Networks.{End, same_end}
use Rattle.qn_value.specs.Labels.{Slot, is_positive, SuitsAll, IsUniform, IsWellLabelled}
use Rattle.qn_value.proofs.Sums.{label_test}
use Rattle.qn_value.proofs.NetLaws.{end_test}
use Rattle.qn_net.specs.Members.{LabelledMember, member_tensor, member_at, no_member, slots_of_members, ends_of_members}
use Rattle.qn_net.specs.NetworkValues.{open_count, IsOrderOf}
use Rattle.qn_net.specs.Refusals.{label_at, BadArity, BadLabelAt, legs_with, tally, slot_at, IsMiscounted, IsRepeated, HasEqualArrows, HasUnequalSectors, IsGap, IsNoPositive, IsNotAbove, BadPlaceAt, LacksLabel, HaveLabels, AreLabelled, AreGoodTwists, IsFaultless}
use Rattle.qn_net.proofs.TableLemmas.{legs_are_ends}
use Rattle.qn_net.proofs.LineLemmas.{none_zero}
use Rattle.qn_net.proofs.LabelledLemmas.{have_labels}
use Rattle.qn_net.proofs.MeetingLemmas.{weight, counts, tally-cons}
use Rattle.qn_net.proofs.OpenLemmas.{positive_suc, no_weight}
use Rattle.qn_doc.specs.NetworksReadBack.{HasLabels}
use Rattle.qn_net.proofs.WellFormed.{turned, in_stands, in_contains}

-- ---- how often an end stands

-- an end that is not there stands nowhere
absent : (e : End) (es : List End) → is_in same_end e es ≡ false → tally e es ≡ 0
absent e [] h = refl
absent e (x ∷ es) h = go (same_end x e) refl (same_end e x) refl (is_in same_end e es) refl h (absent e es)
  where
    s : tally e (x ∷ es) ≡ weight (same_end x e) + tally e es
    s = tally-cons e x es

    go : (a : Bool) → same_end x e ≡ a → (b : Bool) → same_end e x ≡ b → (c : Bool) → is_in same_end e es ≡ c → (b || c) ≡ false → (is_in same_end e es ≡ false → tally e es ≡ 0) → tally e (x ∷ es) ≡ 0
    go a p true q c r k ih = absurd (false≢true (sym k))
    go a p false q true r k ih = absurd (false≢true (sym k))
    go true p false q false r k ih = absurd (false≢true (sym q ∙ turned x e p))
    go false p false q false r k ih = let w : weight (same_end x e) ≡ 0 = no_weight (same_end x e) p in let t : tally e es ≡ 0 = ih r in omega (arith, s, w, t)

-- among distinct ends each stands once at most
once : (es : List End) → IsDistinct same_end es → (e : End) → tally e es ≤ 1
once [] d e = let z : tally e [] ≡ 0 = refl in omega (arith, z)
once (x ∷ es) d e = go (same_end x e) refl (once es d.1 e)
  where
    s : tally e (x ∷ es) ≡ weight (same_end x e) + tally e es
    s = tally-cons e x es

    go : (b : Bool) → same_end x e ≡ b → tally e es ≤ 1 → tally e (x ∷ es) ≤ 1
    go true q ih =
        let w : weight (same_end x e) ≡ 1 = counts (same_end x e) q in
        let z : tally e es ≡ 0 = absent e es (ap (λ y. is_in same_end y es) (sym (end_test.equal x e q)) ∙ d.0) in
        omega (arith, s, w, z)
    go false q ih = let w : weight (same_end x e) ≡ 0 = no_weight (same_end x e) q in omega (arith, s, w, ih)

-- ---- the legs of a line

suits_at : (s : Slot) (ts : List Slot) → SuitsAll s ts → (j : ℕ) → j < length ts → (slot_at ts j).end.label ≡ s.end.label → (slot_at ts j).sectors ≡ s.sectors
suits_at s [] h j l e = absurd (omega arith)
suits_at s (t ∷ ts) h zero l e = h.0 e
suits_at s (t ∷ ts) h (suc j) l e = suits_at s ts h.1 j (omega arith) e

uniform_at : (ss : List Slot) → IsUniform ss → (i j : ℕ) → i < length ss → j < length ss → (slot_at ss i).end.label ≡ (slot_at ss j).end.label → (slot_at ss i).sectors ≡ (slot_at ss j).sectors
uniform_at [] h i j l m e = absurd (omega arith)
uniform_at (s ∷ ss) h zero zero l m e = refl
uniform_at (s ∷ ss) h zero (suc j) l m e = sym (suits_at s ss h.0 j (omega arith) (sym e))
uniform_at (s ∷ ss) h (suc i) zero l m e = suits_at s ss h.0 i (omega arith) e
uniform_at (s ∷ ss) h (suc i) (suc j) l m e = uniform_at ss h.1 i j (omega arith) (omega arith) e

-- ---- an order

-- what stands at a place is in the list
stands_in : (xs : List ℤ) (i : ℕ) → i < length xs → is_in int_eq (label_at xs i) xs ≡ true
stands_in xs i l = is_in-at int_eq label_test xs i (pos 0) l

-- no label of a list of distinct ones stands before itself
not_before : (xs : List ℤ) → IsDistinct int_eq xs → (i : ℕ) → i < length xs → Contains (take i xs) (label_at xs i) → ⊥
not_before [] d i l c = absurd (omega arith)
not_before (x ∷ xs) d zero l c = absurd (omega (arith, c.1))
not_before (x ∷ xs) d (suc i) l c = go c.0 c.1 c.2 (not_before xs d.1 i (omega arith))
  where
    go : (k : ℕ) → k < length (take (suc i) (x ∷ xs)) → get_or (take (suc i) (x ∷ xs)) k (label_at xs i) ≡ label_at xs i → (Contains (take i xs) (label_at xs i) → ⊥) → ⊥
    go zero m e ih = false≢true (sym d.0 ∙ ap (λ y. is_in int_eq y xs) e ∙ stands_in xs i (omega arith))
    go (suc k) m e ih = ih (k, omega (arith, m), e)

-- ---- members

pub have_from : (ms : List LabelledMember) → ((i : ℕ) → i < length ms → length (member_at ms i).labels ≡ length (member_tensor (member_at ms i).member).legs) → All HasLabels ms → HaveLabels ms
have_from ms h k i b = go b.1
  where
    go : BadArity (member_at ms i) ⊎ ((j : ℕ) × BadLabelAt (member_at ms i).labels j) → ⊥
    go (inl n) = n (h i b.0)
    go (inr w) = w.1.1 (k i no_member b.0 w.0 (pos 0) w.1.0)

-- ---- all together

module _ (ms : List LabelledMember) (order twist : List ℤ) (have : HaveLabels ms) (w : IsWellLabelled (ends_of_members ms) (open_count (ends_of_members ms))) (uniform : IsUniform (slots_of_members ms))
    (o : IsOrderOf (ends_of_members ms) order) (inside : (l : ℤ) → is_in int_eq l twist ≡ true → is_in int_eq l order ≡ true)
    (ascending : (i : ℕ) → suc i < length twist → int_lt (label_at twist i) (label_at twist (suc i)) ≡ true) where
  abbrev es : List End
  es = ends_of_members ms

  abbrev end : ℤ → Bool → End
  end l i = record { label = l; inward = i }

  few : (l : ℤ) (i : Bool) → tally (end l i) es ≤ 1
  few l i = once es w.distinct (end l i)

  zero_nowhere : legs_with (pos 0) es ≡ 0
  zero_nowhere = none_zero es (have_labels ms have)

  -- both ends of a positive label stand, or none
  both : (n : ℕ) → tally (end (pos n) true) es ≡ tally (end (pos n) false) es
  both zero = let s = legs_are_ends (pos 0) es in let z = zero_nowhere in omega (arith, s, z)
  both (suc n) = go (is_in same_end (end (pos (suc n)) true) es) refl
    where
      pair : is_in same_end (end (pos (suc n)) true) es ≡ is_in same_end (end (pos (suc n)) false) es
      pair = w.paired (pos (suc n)) (positive_suc n)

      go : (b : Bool) → is_in same_end (end (pos (suc n)) true) es ≡ b → tally (end (pos (suc n)) true) es ≡ tally (end (pos (suc n)) false) es
      go true q =
          let a = in_stands (end (pos (suc n)) true) es q in
          let b = in_stands (end (pos (suc n)) false) es (sym pair ∙ q) in
          let c = few (pos (suc n)) true in
          let d = few (pos (suc n)) false in
          omega (arith, a, b, c, d)
      go false q =
          let a = absent (end (pos (suc n)) true) es q in
          let b = absent (end (pos (suc n)) false) es (sym pair ∙ q) in
          omega (arith, a, b)

  counted : HasNone (IsMiscounted es)
  counted n m = go (tally (end (pos n) true) es) refl
    where
      go : (k : ℕ) → tally (end (pos n) true) es ≡ k → ⊥
      go zero q = m.0 (let s = legs_are_ends (pos n) es in let b = both n in omega (arith, s, b, q))
      go (suc zero) q = m.1 (let s = legs_are_ends (pos n) es in let b = both n in omega (arith, s, b, q))
      go (suc (suc k)) q = let f = few (pos n) true in absurd (omega (arith, f, q))

  -- an end of a negative label stands only where its label is among those of the open legs
  open_label : (n : ℕ) (i : Bool) → is_in same_end (end (negsuc n) i) es ≡ true → n < open_count es
  open_label n i h = go (w.no_more (end (negsuc n) i) h)
    where
      number : {j k : ℕ} → negsuc j ≡ negsuc k → j ≡ k
      number e = cc

      go : (is_positive (negsuc n) ≡ true) ⊎ ((k : ℕ) × (k < open_count es) × (negsuc n ≡ negsuc k)) → n < open_count es
      go (inl p) = absurd (false≢true p)
      go (inr p) = let e : n ≡ p.0 = number p.2 in omega (arith, e, p.1)

  repeated : HasNone (IsRepeated es)
  repeated n m = go (is_in same_end (end (negsuc n) true) es) refl (is_in same_end (end (negsuc n) false) es) refl
    where
      go : (a : Bool) → is_in same_end (end (negsuc n) true) es ≡ a → (b : Bool) → is_in same_end (end (negsuc n) false) es ≡ b → ⊥
      go true p true q = false≢true (sym (ap not q) ∙ sym (w.open_once n (open_label n true p)) ∙ p)
      go false p b q = let s = legs_are_ends (negsuc n) es in let z = absent (end (negsuc n) true) es p in let f = few (negsuc n) false in absurd (omega (arith, s, z, f, m))
      go true p false q = let s = legs_are_ends (negsuc n) es in let z = absent (end (negsuc n) false) es q in let f = few (negsuc n) true in absurd (omega (arith, s, z, f, m))

  arrows : HasNone (HasEqualArrows es)
  arrows n (inl t) = let f = few (pos n) true in absurd (omega (arith, f, t))
  arrows n (inr t) = let f = few (pos n) false in absurd (omega (arith, f, t))

  sectors : HasNone (HasUnequalSectors (slots_of_members ms))
  sectors n d = d.6 (uniform_at (slots_of_members ms) uniform d.0 d.1 d.2 d.3 (d.4 ∙ sym d.5))

  -- a label that stands has an end that stands
  some_end : (l : ℤ) → 0 < legs_with l es → (i : Bool) × (is_in same_end (end l i) es ≡ true)
  some_end l h = go (is_in same_end (end l true) es) refl (is_in same_end (end l false) es) refl
    where
      go : (a : Bool) → is_in same_end (end l true) es ≡ a → (b : Bool) → is_in same_end (end l false) es ≡ b → (i : Bool) × (is_in same_end (end l i) es ≡ true)
      go true p b q = (true, p)
      go false p true q = (false, q)
      go false p false q = let s = legs_are_ends l es in let y = absent (end l true) es p in let z = absent (end l false) es q in absurd (omega (arith, s, y, z, h))

  gaps : HasNone (IsGap es)
  gaps n g = go (is_in same_end (end (negsuc n) true) es) refl
    where
      below : n < open_count es
      below = let e = some_end (negsuc g.1.0) g.1.2 in let l = open_label g.1.0 e.0 e.1 in omega (arith, l, g.1.1)

      go : (a : Bool) → is_in same_end (end (negsuc n) true) es ≡ a → ⊥
      go true p = let t = in_stands (end (negsuc n) true) es p in let s = legs_are_ends (negsuc n) es in absurd (omega (arith, s, t, g.0))
      go false p = out (is_in same_end (end (negsuc n) false) es) refl
        where
          out : (b : Bool) → is_in same_end (end (negsuc n) false) es ≡ b → ⊥
          out true q = let t = in_stands (end (negsuc n) false) es q in let s = legs_are_ends (negsuc n) es in absurd (omega (arith, s, t, g.0))
          out false q = false≢true (sym p ∙ (w.open_once n below ∙ ap not q))

  labelled : AreLabelled ms
  labelled = ((((have, counted, repeated), arrows), sectors), gaps)

  -- a label of the order stands
  stands : (l : ℤ) → is_in int_eq l order ≡ true → IsNoPositive es l → ⊥
  stands l i = none l parts.0 parts.1
    where
      parts : (is_positive l ≡ true) × (is_in same_end (end l true) es ≡ true)
      parts = and_parts (is_positive l) (is_in same_end (end l true) es) (sym (o.positive l) ∙ i)

      none : (l : ℤ) → is_positive l ≡ true → is_in same_end (end l true) es ≡ true → IsNoPositive es l → ⊥
      none (pos n) p q z = let t = in_stands (end (pos n) true) es q in let s = legs_are_ends (pos n) es in absurd (omega (arith, s, t, z))
      none (negsuc n) p q z = false≢true p

  places : HasNone (BadPlaceAt es order)
  places i b = go b.1
    where
      go : IsNoPositive es (label_at order i) ⊎ Contains (take i order) (label_at order i) → ⊥
      go (inl z) = stands (label_at order i) (stands_in order i b.0) z
      go (inr c) = not_before order o.distinct i b.0 c

  twisted : AreGoodTwists es twist
  twisted i b = go i b.0 b.1
    where
      go : (i : ℕ) → i < length twist → IsNoPositive es (label_at twist i) ⊎ IsNotAbove twist i → ⊥
      go i l (inl z) = stands (label_at twist i) (inside (label_at twist i) (stands_in twist i l)) z
      go zero l (inr n) = n
      go (suc i) l (inr n) = false≢true (sym n ∙ ascending i l)

  complete : LacksLabel es order → ⊥
  complete k = k.2 (in_contains order (pos k.0) (o.positive (pos k.0) ∙ ap₂ (λ a b. a && b) (positive k.0 k.1) (inward k.0 k.1)))
    where
      positive : (n : ℕ) → 0 < legs_with (pos n) es → is_positive (pos n) ≡ true
      positive zero h = let z = zero_nowhere in absurd (omega (arith, z, h))
      positive (suc n) h = positive_suc n

      inward : (n : ℕ) → 0 < legs_with (pos n) es → is_in same_end (end (pos n) true) es ≡ true
      inward n h = go (is_in same_end (end (pos n) true) es) refl
        where
          go : (a : Bool) → is_in same_end (end (pos n) true) es ≡ a → is_in same_end (end (pos n) true) es ≡ true
          go true p = p
          go false p = let z = absent (end (pos n) true) es p in let s = legs_are_ends (pos n) es in let b = both n in absurd (omega (arith, s, z, b, h))

  pub good : IsFaultless ms (Some order) twist
  good = (labelled, (places, complete), twisted)
