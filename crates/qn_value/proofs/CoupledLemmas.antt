-- Coupled tensors are a network.
use Rattle.std.proofs.lemmas.Simd.{map-map}
use Rattle.std.proofs.Common.{◌≡◌, ◌≢◌, ◌≤◌, ◌<◌, ℕ, zero, suc, ◌+◌, ◌==◌, ℤ, pos, negsuc, Bool, true, false, not, ◌||◌, cond, List, [], ◌∷◌, ◌++◌, refl, sym, ◌∙◌, ap, ap₂, subst, map, length, take, drop, get_or, ◌⊎◌, inl, inr, eqb-true, eq-eqb, nat_lt, add-one, zero-add, count_by, arith}
use Rattle.std.specs.List.{flat_map, range_with_len}
use Rattle.std.proofs.lemmas.List.{length-append, length-map, length-take, length-drop}
use Rattle.std.proofs.lemmas.List.FromFn.{length-range_with_len}
use Rattle.std.proofs.lemmas.Bool.{or_left, or_right, false≢true}
use Rattle.std.proofs.lemmas.Bool.Decides.{nat_tests}
use Rattle.qn_sign.specs.Sign.{is_in, IsDistinct}
use Rattle.qn_sign.specs.Positions.{positions}
use Rattle.qn_index.specs.declared.leg.Dir.{Dir}
use Rattle.qn_index.specs.declared.leg.Dir.TheVariants.{Out, In}
use Rattle.qn_index.specs.Legs.{LegValue}
use Rattle.qn_value.specs.Networks.{End, same_end}
use Rattle.qn_value.specs.Tensors.{TensorValue}
use Rattle.qn_charge.specs.declared.factor.Factor.{Factor}
use Rattle.qn_value.specs.Labels.{Placed, Slot, is_inward, is_positive, slots_of, slots, ends, SuitsAll, IsUniform, AllPlaced, IsWellLabelled}
use Rattle.qn_value.specs.Local.{no_leg, is_coupled, couple_number, label_at, labels_of, with_labels, coupled, open_from, open_legs, AllTensors, IsCouple, IsCoupling}
use Rattle.qn_value.proofs.NetLaws.{end_test}
use Rattle.qn_value.proofs.CoupleLemmas.{couple_at, other, number_from, stands_in, couple_passes, one_couple, IsPartner, partner, open_before, count-cons, open_grows, open_found}
use Rattle.qn_facts.proofs.Booleans.{same_tests}

abbrev pub word_of : List TensorValue → List LegValue
word_of ts = flat_map (λ t. t.legs) ts

-- the legs of the tensors with their labels, in word order

slots_none : (gs : List LegValue) → slots_of gs [] ≡ []
slots_none [] = refl
slots_none (g ∷ gs) = refl

slots_append : (gs hs : List LegValue) (ls : List ℤ) → slots_of (gs ++ hs) ls ≡ slots_of gs (take (length gs) ls) ++ slots_of hs (drop (length gs) ls)
slots_append [] hs ls = refl
slots_append (g ∷ gs) hs [] = sym (slots_none hs)
slots_append (g ∷ gs) hs (l ∷ ls) = ap (λ ss. record { end = record { label = l; inward = is_inward g.arrow }; sectors = g.sectors } ∷ ss) (slots_append gs hs ls)

pub slots_with : (ts : List TensorValue) (ls : List ℤ) → slots (with_labels ts ls) ≡ slots_of (word_of ts) ls
slots_with [] ls = refl
slots_with (t ∷ ts) ls =
    ap (λ ss. slots_of t.legs (take (length t.legs) ls) ++ ss) (slots_with ts (drop (length t.legs) ls)) ∙ sym (slots_append t.legs (word_of ts) ls)

abbrev pub slot_at : (ℕ → ℤ) → (ℕ → LegValue) → ℕ → Slot
slot_at f g i = record { end = record { label = f i; inward = is_inward (g i).arrow }; sectors = (g i).sectors }

slots_range : (gs : List LegValue) (f : ℕ → ℤ) (g : ℕ → LegValue) (a : ℕ) → ((k : ℕ) → k < length gs → g (a + k) ≡ get_or gs k no_leg) →
    slots_of gs (map f (range_with_len a (length gs))) ≡ map (slot_at f g) (range_with_len a (length gs))
slots_range [] f g a h = refl
slots_range (x ∷ gs) f g a h =
    ap₂ ◌∷◌
    (ap (λ (y : LegValue). record { end = record { label = f a; inward = is_inward y.arrow }; sectors = y.sectors }) (sym (ap g here ∙ h 0 (omega arith))))
    (slots_range gs f g (a + 1) (λ k l. ap g (next k) ∙ h (suc k) (omega arith)))
  where
    here : a ≡ a + 0
    here = omega arith

    next : (k : ℕ) → a + 1 + k ≡ a + suc k
    next k = omega arith

abbrev pub leg_at : List LegValue → ℕ → LegValue
leg_at ls i = get_or ls i no_leg

pub slots_coupled : (ts : List TensorValue) (cs : List (ℕ × ℕ)) →
    slots (coupled ts cs) ≡ map (slot_at (label_at cs) (leg_at (word_of ts))) (positions (length (word_of ts)))
slots_coupled ts cs =
    slots_with ts (labels_of cs (length (word_of ts)))
    ∙ slots_range (word_of ts) (label_at cs) (leg_at (word_of ts)) 0 (λ k l. ap (leg_at (word_of ts)) (zero-add k))

-- what stands in a list over some numbers

in_range : (f : ℕ → End) (a n : ℕ) (e : End) → is_in same_end e (map f (range_with_len a n)) ≡ true → (i : ℕ) × (a ≤ i) × (i < a + n) × (e ≡ f i)
in_range f a zero e h = absurd (false≢true h)
in_range f a (suc n) e h = go (same_end e (f a)) refl h (in_range f (a + 1) n e)
  where
    go : (b : Bool) → same_end e (f a) ≡ b → (b || is_in same_end e (map f (range_with_len (a + 1) n))) ≡ true →
        (is_in same_end e (map f (range_with_len (a + 1) n)) ≡ true → (i : ℕ) × (a + 1 ≤ i) × (i < a + 1 + n) × (e ≡ f i)) → (i : ℕ) × (a ≤ i) × (i < a + suc n) × (e ≡ f i)
    go true q k ih = (a, omega arith, omega arith, end_test.equal e (f a) q)
    go false q k ih = let r : (i : ℕ) × (a + 1 ≤ i) × (i < a + 1 + n) × (e ≡ f i) = ih k in (r.0, omega (arith, r.1), omega (arith, r.2), r.3)

pub to_range : (f : ℕ → End) (a n i : ℕ) → a ≤ i → i < a + n → is_in same_end (f i) (map f (range_with_len a n)) ≡ true
to_range f a zero i h k = absurd (omega arith)
to_range f a (suc n) i h k = go (i == a) refl (λ l. to_range f (a + 1) n i l (omega arith))
  where
    go : (b : Bool) → (i == a) ≡ b → (a + 1 ≤ i → is_in same_end (f i) (map f (range_with_len (a + 1) n)) ≡ true) →
        (same_end (f i) (f a) || is_in same_end (f i) (map f (range_with_len (a + 1) n))) ≡ true
    go true e ih =
        or_left (same_end (f i) (f a)) (is_in same_end (f i) (map f (range_with_len (a + 1) n))) (subst (λ k. same_end (f i) (f k) ≡ true) (eqb-true i a e) (end_test.itself (f i)))
    go false e ih = or_right (same_end (f i) (f a)) (is_in same_end (f i) (map f (range_with_len (a + 1) n))) (ih (grind (arith, nat_tests)))

range_distinct : (f : ℕ → End) (a n : ℕ) → ((i j : ℕ) → i < a + n → j < a + n → f i ≡ f j → i ≡ j) → IsDistinct same_end (map f (range_with_len a n))
range_distinct f a zero h = tt
range_distinct f a (suc n) h =
    (go (is_in same_end (f a) (map f (range_with_len (a + 1) n))) refl, range_distinct f (a + 1) n (λ i j l m e. h i j (omega (arith, l)) (omega (arith, m)) e))
  where
    go : (b : Bool) → is_in same_end (f a) (map f (range_with_len (a + 1) n)) ≡ b → b ≡ false
    go false e = refl
    go true e =
        let r : (i : ℕ) × (a + 1 ≤ i) × (i < a + 1 + n) × (f a ≡ f i) = in_range f (a + 1) n (f a) e in
        let same : a ≡ r.0 = h a r.0 (omega arith) (omega (arith, r.2)) r.3 in
        absurd (omega (arith, same, r.1))

-- labels

pub coupled_label : (cs : List (ℕ × ℕ)) (i : ℕ) → is_coupled cs i ≡ true → label_at cs i ≡ pos (couple_number 1 cs i)
coupled_label cs i h = ap (λ b. cond b (pos (couple_number 1 cs i)) (negsuc (open_before cs i))) h

pub open_label : (cs : List (ℕ × ℕ)) (i : ℕ) → is_coupled cs i ≡ false → label_at cs i ≡ negsuc (open_before cs i)
open_label cs i h = ap (λ b. cond b (pos (couple_number 1 cs i)) (negsuc (open_before cs i))) h

pub pos_equal : (m n : ℕ) → pos m ≡ pos n → m ≡ n
pos_equal m n e = cc e

pub negsuc_equal : (m n : ℕ) → negsuc m ≡ negsuc n → m ≡ n
negsuc_equal m n e = cc e

pub pos_apart : (m n : ℕ) → pos m ≡ negsuc n → ⊥
pos_apart m n e = absurd (cc e)

opposite : (d f : Dir) → d ≢ f → is_inward d ≡ not (is_inward f)
opposite Out Out n = absurd (n refl)
opposite Out In n = refl
opposite In Out n = refl
opposite In In n = absurd (n refl)

not_same : (b : Bool) → b ≡ not b → ⊥
not_same true e = absurd (cc e)
not_same false e = absurd (cc e)

module _ (ls : List LegValue) (cs : List (ℕ × ℕ)) (good : IsCoupling ls cs) where
  abbrev pub count : ℕ
  count = length ls

  abbrev pub end_at : ℕ → End
  end_at i = record { label = label_at cs i; inward = is_inward (leg_at ls i).arrow }

  -- the other leg of a couple is there, has the same label, and the other arrow
  record HasOther (i j : ℕ) : Type 0 where
    within : j < count
    label : label_at cs j ≡ label_at cs i
    turned : is_inward (leg_at ls j).arrow ≡ not (is_inward (leg_at ls i).arrow)

  other_end : (i : ℕ) → is_coupled cs i ≡ true → HasOther i (other i (couple_at cs i))
  other_end i h =
      let j : ℕ = other i (couple_at cs i) in
      let p : IsPartner 1 cs i j = partner 1 cs i good.distinct h in
      let c : IsCouple ls (couple_at cs i) = couple_passes (IsCouple ls) cs i good.meet h in
      record {
        within = within c (i == (couple_at cs i).0);
        label = coupled_label cs j p.coupled ∙ ap pos p.number ∙ sym (coupled_label cs i h);
        turned = turned c (stands_in cs i h) (i == (couple_at cs i).0) refl;
      }
    where
      within : IsCouple ls (couple_at cs i) → (b : Bool) → cond b (couple_at cs i).1 (couple_at cs i).0 < count
      within c true = c.second
      within c false = c.first

      turned : IsCouple ls (couple_at cs i) → (i ≡ (couple_at cs i).0) ⊎ (i ≡ (couple_at cs i).1) → (b : Bool) → (i == (couple_at cs i).0) ≡ b →
          is_inward (leg_at ls (cond b (couple_at cs i).1 (couple_at cs i).0)).arrow ≡ not (is_inward (leg_at ls i).arrow)
      turned c s true e =
          let at : i ≡ (couple_at cs i).0 = eqb-true i (couple_at cs i).0 e in
          opposite (leg_at ls (couple_at cs i).1).arrow (leg_at ls i).arrow
          (λ q. c.meets.0 (ap (λ k. (leg_at ls k).arrow) (sym at) ∙ sym q))
      turned c (inl s) false e = absurd (false≢true (sym e ∙ eq-eqb i (couple_at cs i).0 s))
      turned c (inr s) false e =
          opposite (leg_at ls (couple_at cs i).0).arrow (leg_at ls i).arrow
          (λ q. c.meets.0 (q ∙ ap (λ k. (leg_at ls k).arrow) s))

  -- legs with one label and one arrow are one leg
  pub apart : (i j : ℕ) → i < count → j < count → end_at i ≡ end_at j → i ≡ j
  apart i j l m e = go (is_coupled cs i) refl (is_coupled cs j) refl
    where
      same_label : label_at cs i ≡ label_at cs j
      same_label = ap (λ (x : End). x.label) e

      same_arrow : is_inward (leg_at ls i).arrow ≡ is_inward (leg_at ls j).arrow
      same_arrow = ap (λ (x : End). x.inward) e

      two : (c : ℕ × ℕ) → IsCouple ls c → (i ≡ c.0) ⊎ (i ≡ c.1) → (j ≡ c.0) ⊎ (j ≡ c.1) → i ≡ j
      two c h (inl p) (inl q) = p ∙ sym q
      two c h (inr p) (inr q) = p ∙ sym q
      two c h (inl p) (inr q) =
          absurd (not_same (is_inward (leg_at ls c.1).arrow)
          (ap (λ k. is_inward (leg_at ls k).arrow) (sym q) ∙ sym same_arrow ∙ ap (λ k. is_inward (leg_at ls k).arrow) p
          ∙ opposite (leg_at ls c.0).arrow (leg_at ls c.1).arrow h.meets.0))
      two c h (inr p) (inl q) =
          absurd (not_same (is_inward (leg_at ls c.1).arrow)
          (ap (λ k. is_inward (leg_at ls k).arrow) (sym p) ∙ same_arrow ∙ ap (λ k. is_inward (leg_at ls k).arrow) q
          ∙ opposite (leg_at ls c.0).arrow (leg_at ls c.1).arrow h.meets.0))

      go : (a : Bool) → is_coupled cs i ≡ a → (b : Bool) → is_coupled cs j ≡ b → i ≡ j
      go true p true q =
          let one : couple_at cs i ≡ couple_at cs j = one_couple 1 cs i j p q (pos_equal (couple_number 1 cs i) (couple_number 1 cs j) (sym (coupled_label cs i p) ∙ same_label ∙ coupled_label cs j q)) in
          two (couple_at cs i) (couple_passes (IsCouple ls) cs i good.meet p) (stands_in cs i p) (subst (λ c. (j ≡ c.0) ⊎ (j ≡ c.1)) (sym one) (stands_in cs j q))
      go true p false q = absurd (pos_apart (couple_number 1 cs i) (open_before cs j) (sym (coupled_label cs i p) ∙ same_label ∙ open_label cs j q))
      go false p true q = absurd (pos_apart (couple_number 1 cs j) (open_before cs i) (sym (coupled_label cs j q) ∙ sym same_label ∙ open_label cs i p))
      go false p false q =
          let same : open_before cs i ≡ open_before cs j = negsuc_equal (open_before cs i) (open_before cs j) (sym (open_label cs i p) ∙ same_label ∙ open_label cs j q) in
          order (i == j) refl (nat_lt i j) refl same
        where
          order : (b : Bool) → (i == j) ≡ b → (t : Bool) → nat_lt i j ≡ t → open_before cs i ≡ open_before cs j → i ≡ j
          order true e t f s = eqb-true i j e
          order false e true f s = absurd (omega (arith, s, open_grows cs i j p (grind (arith, nat_tests))))
          order false e false f s = absurd (omega (arith, s, open_grows cs j i q (grind (arith, nat_tests))))

  abbrev pub all_ends : List End
  all_ends = map end_at (positions count)

  -- an end is there where a leg with its label and arrow is
  pub there : (i : ℕ) → i < count → (l : ℤ) (b : Bool) → label_at cs i ≡ l → is_inward (leg_at ls i).arrow ≡ b → is_in same_end (record { label = l; inward = b }) all_ends ≡ true
  there i h l b e f = subst (λ x. is_in same_end x all_ends ≡ true) (λ t. record { label = e t; inward = f t }) (to_range end_at 0 count i (omega arith) (omega arith))

  paired : (l : ℤ) → is_positive l ≡ true → is_in same_end (record { label = l; inward = true }) all_ends ≡ is_in same_end (record { label = l; inward = false }) all_ends
  paired l p =
      same_tests (is_in same_end (record { label = l; inward = true }) all_ends) (is_in same_end (record { label = l; inward = false }) all_ends) (across true) (across false)
    where
      across : (b : Bool) → is_in same_end (record { label = l; inward = b }) all_ends ≡ true → is_in same_end (record { label = l; inward = not b }) all_ends ≡ true
      across b h = at (in_range end_at 0 count (record { label = l; inward = b }) h)
        where
          at : (i : ℕ) × (0 ≤ i) × (i < 0 + count) × (record { label = l; inward = b } ≡ end_at i) → is_in same_end (record { label = l; inward = not b }) all_ends ≡ true
          at x =
              let is_label : label_at cs x.0 ≡ l = sym (ap (λ (y : End). y.label) x.3) in
              let is_arrow : is_inward (leg_at ls x.0).arrow ≡ b = sym (ap (λ (y : End). y.inward) x.3) in
              go (is_coupled cs x.0) refl is_label is_arrow
            where
              go : (t : Bool) → is_coupled cs x.0 ≡ t → label_at cs x.0 ≡ l → is_inward (leg_at ls x.0).arrow ≡ b → is_in same_end (record { label = l; inward = not b }) all_ends ≡ true
              go true e f g =
                  let o : HasOther x.0 (other x.0 (couple_at cs x.0)) = other_end x.0 e in
                  there (other x.0 (couple_at cs x.0)) o.within l (not b) (o.label ∙ f) (o.turned ∙ ap not g)
              go false e f g = absurd (false≢true (ap is_positive (sym (open_label cs x.0 e) ∙ f) ∙ p))

  pub open_once : (k : ℕ) → k < open_before cs count →
      is_in same_end (record { label = negsuc k; inward = true }) all_ends ≡ not (is_in same_end (record { label = negsuc k; inward = false }) all_ends)
  open_once k h = from (open_found cs count k h)
    where
      -- only one leg has this label
      only : (i : ℕ) → is_coupled cs i ≡ false → open_before cs i ≡ k → (b : Bool) → is_in same_end (record { label = negsuc k; inward = b }) all_ends ≡ true → i < count → is_inward (leg_at ls i).arrow ≡ b
      only i u e b m l = at (in_range end_at 0 count (record { label = negsuc k; inward = b }) m)
        where
          at : (j : ℕ) × (0 ≤ j) × (j < 0 + count) × (record { label = negsuc k; inward = b } ≡ end_at j) → is_inward (leg_at ls i).arrow ≡ b
          at x =
              let label : label_at cs x.0 ≡ negsuc k = sym (ap (λ (y : End). y.label) x.3) in
              let one : i ≡ x.0 = same (is_coupled cs x.0) refl label in
              ap (λ j. is_inward (leg_at ls j).arrow) one ∙ sym (ap (λ (y : End). y.inward) x.3)
            where
              same : (t : Bool) → is_coupled cs x.0 ≡ t → label_at cs x.0 ≡ negsuc k → i ≡ x.0
              same true q f = absurd (pos_apart (couple_number 1 cs x.0) k (sym (coupled_label cs x.0 q) ∙ f))
              same false q f =
                  order (i == x.0) refl (nat_lt i x.0) refl (e ∙ sym (negsuc_equal (open_before cs x.0) k (sym (open_label cs x.0 q) ∙ f)))
                where
                  order : (c : Bool) → (i == x.0) ≡ c → (t : Bool) → nat_lt i x.0 ≡ t → open_before cs i ≡ open_before cs x.0 → i ≡ x.0
                  order true c t d s = eqb-true i x.0 c
                  order false c true d s = absurd (omega (arith, s, open_grows cs i x.0 u (grind (arith, nat_tests))))
                  order false c false d s = absurd (omega (arith, s, open_grows cs x.0 i q (grind (arith, nat_tests))))

      from : (i : ℕ) × (i < count) × (is_coupled cs i ≡ false) × (open_before cs i ≡ k) →
          is_in same_end (record { label = negsuc k; inward = true }) all_ends ≡ not (is_in same_end (record { label = negsuc k; inward = false }) all_ends)
      from x =
          let label : label_at cs x.0 ≡ negsuc k = open_label cs x.0 x.2 ∙ ap negsuc x.3 in
          go (is_inward (leg_at ls x.0).arrow) refl label (is_in same_end (record { label = negsuc k; inward = true }) all_ends) refl (is_in same_end (record { label = negsuc k; inward = false }) all_ends) refl
        where
          go : (b : Bool) → is_inward (leg_at ls x.0).arrow ≡ b → label_at cs x.0 ≡ negsuc k →
              (p : Bool) → is_in same_end (record { label = negsuc k; inward = true }) all_ends ≡ p → (q : Bool) → is_in same_end (record { label = negsuc k; inward = false }) all_ends ≡ q → p ≡ not q
          go true e l true f false g = refl
          go false e l false f true g = refl
          go true e l true f true g = absurd (false≢true (sym (only x.0 x.2 x.3 false g x.1) ∙ e))
          go true e l false f q g = absurd (false≢true (sym f ∙ there x.0 x.1 (negsuc k) true l e))
          go false e l true f q g = absurd (false≢true (sym e ∙ only x.0 x.2 x.3 true f x.1))
          go false e l false f false g = absurd (false≢true (sym g ∙ there x.0 x.1 (negsuc k) false l e))

  no_more : (e : End) → is_in same_end e all_ends ≡ true → (is_positive e.label ≡ true) ⊎ ((k : ℕ) × (k < open_before cs count) × (e.label ≡ negsuc k))
  no_more e h = at (in_range end_at 0 count e h)
    where
      positive : (n : ℕ) → 1 ≤ n → is_positive (pos n) ≡ true
      positive n l = grind (arith, nat_tests)

      at : (i : ℕ) × (0 ≤ i) × (i < 0 + count) × (e ≡ end_at i) → (is_positive e.label ≡ true) ⊎ ((k : ℕ) × (k < open_before cs count) × (e.label ≡ negsuc k))
      at x = go (is_coupled cs x.0) refl (ap (λ (y : End). y.label) x.3)
        where
          go : (t : Bool) → is_coupled cs x.0 ≡ t → e.label ≡ label_at cs x.0 → (is_positive e.label ≡ true) ⊎ ((k : ℕ) × (k < open_before cs count) × (e.label ≡ negsuc k))
          go true q f = inl (ap is_positive (f ∙ coupled_label cs x.0 q) ∙ positive (couple_number 1 cs x.0) (number_from 1 cs x.0))
          go false q f = inr (open_before cs x.0, open_grows cs x.0 count q (omega (arith, x.2)), f ∙ open_label cs x.0 q)

  pub well_labelled : IsWellLabelled all_ends (open_before cs count)
  well_labelled = record {
    distinct = range_distinct end_at 0 count (λ i j l m e. apart i j (omega (arith, l)) (omega (arith, m)) e);
    paired = paired;
    open_once = open_once;
    no_more = no_more;
  }

  -- legs with one label have the same sectors
  same_sectors : (i j : ℕ) → i < count → j < count → label_at cs i ≡ label_at cs j → (leg_at ls i).sectors ≡ (leg_at ls j).sectors
  same_sectors i j l m e = go (is_coupled cs i) refl (is_coupled cs j) refl
    where
      two : (c : ℕ × ℕ) → IsCouple ls c → (i ≡ c.0) ⊎ (i ≡ c.1) → (j ≡ c.0) ⊎ (j ≡ c.1) → (leg_at ls i).sectors ≡ (leg_at ls j).sectors
      two c h (inl p) (inl q) = ap (λ k. (leg_at ls k).sectors) (p ∙ sym q)
      two c h (inr p) (inr q) = ap (λ k. (leg_at ls k).sectors) (p ∙ sym q)
      two c h (inl p) (inr q) = ap (λ k. (leg_at ls k).sectors) p ∙ h.meets.1 ∙ ap (λ k. (leg_at ls k).sectors) (sym q)
      two c h (inr p) (inl q) = ap (λ k. (leg_at ls k).sectors) p ∙ sym h.meets.1 ∙ ap (λ k. (leg_at ls k).sectors) (sym q)

      go : (a : Bool) → is_coupled cs i ≡ a → (b : Bool) → is_coupled cs j ≡ b → (leg_at ls i).sectors ≡ (leg_at ls j).sectors
      go true p true q =
          let one : couple_at cs i ≡ couple_at cs j = one_couple 1 cs i j p q (pos_equal (couple_number 1 cs i) (couple_number 1 cs j) (sym (coupled_label cs i p) ∙ e ∙ coupled_label cs j q)) in
          two (couple_at cs i) (couple_passes (IsCouple ls) cs i good.meet p) (stands_in cs i p) (subst (λ c. (j ≡ c.0) ⊎ (j ≡ c.1)) (sym one) (stands_in cs j q))
      go true p false q = absurd (pos_apart (couple_number 1 cs i) (open_before cs j) (sym (coupled_label cs i p) ∙ e ∙ open_label cs j q))
      go false p true q = absurd (pos_apart (couple_number 1 cs j) (open_before cs i) (sym (coupled_label cs j q) ∙ sym e ∙ open_label cs i p))
      go false p false q =
          ap (λ k. (leg_at ls k).sectors) (order (i == j) refl (nat_lt i j) refl (negsuc_equal (open_before cs i) (open_before cs j) (sym (open_label cs i p) ∙ e ∙ open_label cs j q)))
        where
          order : (b : Bool) → (i == j) ≡ b → (t : Bool) → nat_lt i j ≡ t → open_before cs i ≡ open_before cs j → i ≡ j
          order true e t f s = eqb-true i j e
          order false e true f s = absurd (omega (arith, s, open_grows cs i j p (grind (arith, nat_tests))))
          order false e false f s = absurd (omega (arith, s, open_grows cs j i q (grind (arith, nat_tests))))

  pub uniform : IsUniform (map (slot_at (label_at cs) (leg_at ls)) (positions count))
  uniform = from 0 count (λ k l. omega (arith, l))
    where
      suits : (i : ℕ) (a n : ℕ) → i < count → ((k : ℕ) → k < a + n → k < count) → SuitsAll (slot_at (label_at cs) (leg_at ls) i) (map (slot_at (label_at cs) (leg_at ls)) (range_with_len a n))
      suits i a zero l h = tt
      suits i a (suc n) l h = ((λ e. same_sectors a i (h a (omega arith)) l e), suits i (a + 1) n l (λ k m. h k (omega (arith, m))))

      from : (a n : ℕ) → ((k : ℕ) → k < a + n → k < count) → IsUniform (map (slot_at (label_at cs) (leg_at ls)) (range_with_len a n))
      from a zero h = tt
      from a (suc n) h = (suits a (a + 1) n (h a (omega arith)) (λ k m. h k (omega (arith, m))), from (a + 1) n (λ k m. h k (omega (arith, m))))

-- the number of open legs

pub open_length : (cs : List (ℕ × ℕ)) (a : ℕ) (gs : List LegValue) → count_by (λ j. not (is_coupled cs j)) (range_with_len a (length gs)) ≡ length (open_from a cs gs)
open_length cs a [] = refl
open_length cs a (g ∷ gs) =
    count-cons (λ j. not (is_coupled cs j)) a (range_with_len (a + 1) (length gs))
    ∙ ap (λ k. cond (not (is_coupled cs a)) 1 0 + k) (open_length cs (a + 1) gs ∙ ap (λ k. length (open_from k cs gs)) (add-one a))
    ∙ go (is_coupled cs a)
  where
    go : (b : Bool) → cond (not b) 1 0 + length (open_from (suc a) cs gs) ≡ length (cond b (open_from (suc a) cs gs) (g ∷ open_from (suc a) cs gs))
    go true = zero-add (length (open_from (suc a) cs gs))
    go false = next (length (open_from (suc a) cs gs))
      where
        next : (k : ℕ) → 1 + k ≡ suc k
        next k = omega arith

-- the tensors with their labels

placed_with : (fs : List Factor) (ts : List TensorValue) (ls : List ℤ) → AllTensors fs ts → length ls ≡ length (word_of ts) → AllPlaced fs (with_labels ts ls)
placed_with fs [] ls h n = tt
placed_with fs (t ∷ ts) ls h n =
    let parts : length ls ≡ length t.legs + length (word_of ts) = n ∙ length-append t.legs (word_of ts) in (
      record { group = h.0; tensor = h.1; labels = length-take (length t.legs) ls ∙ omega (arith, parts) },
      placed_with fs ts (drop (length t.legs) ls) h.2 (length-drop (length t.legs) ls ∙ omega (arith, parts)),
    )

-- each leg of the tensors has a label
abbrev pub AllLong : List Placed → Type 0
AllLong [] = Unit {0}
AllLong (p ∷ ps) = (length p.labels ≡ length p.tensor.legs) × AllLong ps

long_with : (ts : List TensorValue) (ls : List ℤ) → length ls ≡ length (word_of ts) → AllLong (with_labels ts ls)
long_with [] ls n = tt
long_with (t ∷ ts) ls n =
    let parts : length ls ≡ length t.legs + length (word_of ts) = n ∙ length-append t.legs (word_of ts) in
    (length-take (length t.legs) ls ∙ omega (arith, parts), long_with ts (drop (length t.legs) ls) (length-drop (length t.legs) ls ∙ omega (arith, parts)))

pub all_long : (ts : List TensorValue) (cs : List (ℕ × ℕ)) → AllLong (coupled ts cs)
all_long ts cs = long_with ts (labels_of cs (length (word_of ts))) (length-map (positions (length (word_of ts))) (label_at cs) ∙ length-range_with_len 0 (length (word_of ts)))

pub coupled_law : (ts : List TensorValue) (cs : List (ℕ × ℕ)) → IsCoupling (word_of ts) cs →
    IsWellLabelled (ends (slots (coupled ts cs))) (length (open_legs ts cs))
    × IsUniform (slots (coupled ts cs))
    × ((fs : List Factor) → AllTensors fs ts → AllPlaced fs (coupled ts cs))
coupled_law ts cs good = (
  subst (λ es. IsWellLabelled es (length (open_legs ts cs)))
      (sym (ap ends (slots_coupled ts cs) ∙ map-map (λ (s : Slot). s.end) (slot_at (label_at cs) (leg_at (word_of ts))) (positions (length (word_of ts)))))
      (subst (IsWellLabelled (all_ends (word_of ts) cs good)) (open_length cs 0 (word_of ts)) (well_labelled (word_of ts) cs good)),
  subst IsUniform (sym (slots_coupled ts cs)) (uniform (word_of ts) cs good),
  (λ fs h. placed_with fs ts (labels_of cs (length (word_of ts))) h (length-map (positions (length (word_of ts))) (label_at cs) ∙ length-range_with_len 0 (length (word_of ts)))),
)
