-- The matrix elements of a chain of placed tensors are those of its pieces.
use Rattle.std.proofs.Common.{◌≡◌, ℕ, zero, suc, ◌+◌, ◌-◌, ◌*◌, ◌<◌, ◌≤◌, ◌==◌, ℤ, pos, negsuc, Bool, true, false, not, ◌&&◌, ◌||◌, cond, List, [], ◌∷◌, ◌++◌, map, reverse, refl, sym, ◌∙◌, ap, ap₂, subst, append_assoc, append-nil, arith, int_eq}
use Rattle.std.specs.Prelude.{nat_lt}
use Rattle.std.specs.List.{flat_map}
use Rattle.std.proofs.lemmas.Bool.{or_from, or_right, false≢true}
use Rattle.std.proofs.lemmas.Bool.Decides.{nat_tests}
use Rattle.std.proofs.lemmas.List.{map-append}
use Rattle.qn_sign.specs.Sign.{is_in, IsDistinct, Perm}
use Rattle.qn_charge.specs.declared.factor.Factor.{Factor}
use Rattle.qn_index.specs.Legs.{SectorValue, LegValue, flipped, total, parity_at}
use Rattle.qn_value.specs.Tensors.{TensorValue}
use Rattle.qn_value.specs.Networks.{End, Bond, same_bool, same_end, word, goal, labels, flat, at_values, IsNetwork}
use Rattle.qn_value.specs.Labels.{Slot, slots, node_of, is_positive, bonds_from, open_end, opens_of}
use Rattle.qn_sign.proofs.Parity.{perm-sym}
use Rattle.qn_sign.proofs.Order.{is_in-append, is_in-perm, distinct-perm}
use Rattle.qn_value.proofs.Sums.{label_test}
use Rattle.qn_value.proofs.NetLaws.{end_test}
use Rattle.qn_value.proofs.PlacedLemmas.{HaveSectorsOn}
use Rattle.qn_braket.specs.Conjugates.{flip}
use Rattle.qn_braket.specs.Brakets.{outs, ins_back}
use Rattle.qn_braket.specs.ChainLabels.{own_link, own_upper, own_lower}
use Rattle.qn_braket.specs.Pieces.{Piece, chain_links, site_lines, operator_chain, piece_element, operator_names}
use Rattle.qn_braket.proofs.Back.{perm_reverse}
use Rattle.qn_braket.proofs.Conjugate.{conj_ends_cons}
use Rattle.qn_braket.proofs.Chained.{numbers, neg_test, distinct_goal}
use Rattle.qn_braket.proofs.ChainNets.{ends_labels, operator_perm, name_upper, name_lower}
use Rattle.qn_braket.proofs.SlotLaws.{ArePositive, AreOpens, negative_in, plain_value}
use Rattle.qn_braket.proofs.PlacedChains.{site_leg, IsOperator, operator_placed, element_of, slot_at, chain_slots, all_chain, all_chain_below, chain_bonds, piece_of, placed_slots, placed_nodes, links_same}
use Rattle.qn_braket.proofs.StateValues.{own_distinct, links_positive, not_in_outs, in_outs, from_outs, opens_same}
use Rattle.qn_net.proofs.WellFormed.{push_distinct}

-- the labels of the open ends differ

absent-snoc : (l : ℤ) (us : List ℤ) (u : ℤ) → is_in int_eq l us ≡ false → int_eq l u ≡ false → is_in int_eq l (us ++ u ∷ []) ≡ false
absent-snoc l us u h k = is_in-append int_eq l us (u ∷ []) ∙ or_from (is_in int_eq l us) (int_eq l u || false) h (or_from (int_eq l u) false k refl)

open_fresh : (es : List End) (n i : ℕ) → n ≤ i → is_in int_eq (negsuc i) (ends_labels (opens_of es n)) ≡ false
open_fresh es zero i h = refl
open_fresh es (suc n) i h =
    ap (is_in int_eq (negsuc i)) (map-append (λ (e : End). e.label) (opens_of es n) (open_end es n ∷ []))
    ∙ absent-snoc (negsuc i) (ends_labels (opens_of es n)) (negsuc n) (open_fresh es n i (less n i h)) (neg_test i n ∙ differ n i h)
  where
    less : (n i : ℕ) → suc n ≤ i → n ≤ i
    less n i h = omega (arith, h)

    differ : (n i : ℕ) → suc n ≤ i → (i == n) ≡ false
    differ n i h = grind (arith, nat_tests)

open_distinct : (es : List End) (n : ℕ) → IsDistinct int_eq (ends_labels (opens_of es n))
open_distinct es zero = tt
open_distinct es (suc n) =
    subst (IsDistinct int_eq) (sym (map-append (λ (e : End). e.label) (opens_of es n) (open_end es n ∷ [])))
    (push_distinct (ends_labels (opens_of es n)) (negsuc n) (open_distinct es n) (open_fresh es n n (itself n)))
  where
    itself : (n : ℕ) → n ≤ n
    itself n = omega arith

open_negative : (es : List End) (n x : ℕ) → is_in int_eq (pos x) (ends_labels (opens_of es n)) ≡ false
open_negative es zero x = refl
open_negative es (suc n) x =
    ap (is_in int_eq (pos x)) (map-append (λ (e : End). e.label) (opens_of es n) (open_end es n ∷ []))
    ∙ absent-snoc (pos x) (ends_labels (opens_of es n)) (negsuc n) (open_negative es n x) refl

-- the labels of s' and of s among the open ends

module _ (dim : ℕ → ℕ) (m : ℕ) where
  abbrev lowers : ℕ → ℕ → List Bond
  lowers j k = site_lines (own_lower m) dim j k

  abbrev pub own_opens : List End
  own_opens = outs (site_lines own_upper dim 0 (suc m)) ++ ins_back (lowers 0 (suc m))

  in_back : (e : End) (bs : List Bond) → is_in same_end e (ins_back bs) ≡ is_in same_end e (map flip (outs bs))
  in_back e bs = sym (is_in-perm same_end e (perm_reverse (map flip (outs bs))))

  no_out : (l : ℤ) (bs : List Bond) → is_in same_end (record { label = l; inward = false }) (map flip (outs bs)) ≡ false
  no_out l [] = refl
  no_out l (b ∷ bs) = or_from (same_end (record { label = l; inward = false }) (record { label = b.label; inward = true })) (is_in same_end (record { label = l; inward = false }) (map flip (outs bs))) (other (int_eq l b.label)) (no_out l bs)
    where
      other : (a : Bool) → (a && false) ≡ false
      other a = grind arith

  -- s_j has a label above those of s'
  lower_there : (k j i : ℕ) → j + k ≡ suc m → m < i → i < 2 * m + 2 - j → is_in same_end (record { label = negsuc i; inward = true }) (map flip (outs (lowers j k))) ≡ true
  lower_there zero j i e h b = absurd (none j i m e h b)
    where
      none : (j i m : ℕ) → j + 0 ≡ suc m → m < i → i < 2 * m + 2 - j → ⊥
      none j i m e h b = omega (arith, e, h, b)
  lower_there (suc k) j i e h b = go (i == 2 * m + 1 - j) refl (lower_there k (suc j) i (move j k m e) h)
    where
      move : (j k m : ℕ) → j + suc k ≡ suc m → suc j + k ≡ suc m
      move j k m e = omega (arith, e)

      next : (i j m : ℕ) → i < 2 * m + 2 - j → (i == 2 * m + 1 - j) ≡ false → i < 2 * m + 2 - suc j
      next i j m b f = grind (arith, nat_tests)

      go : (c : Bool) → (i == 2 * m + 1 - j) ≡ c → (i < 2 * m + 2 - suc j → is_in same_end (record { label = negsuc i; inward = true }) (map flip (outs (lowers (suc j) k))) ≡ true) →
          ((int_eq (negsuc i) (own_lower m j) && true) || is_in same_end (record { label = negsuc i; inward = true }) (map flip (outs (lowers (suc j) k)))) ≡ true
      go true f ih = ap (λ d. (d && true) || is_in same_end (record { label = negsuc i; inward = true }) (map flip (outs (lowers (suc j) k)))) (neg_test i (2 * m + 1 - j) ∙ f)
      go false f ih = or_right (int_eq (negsuc i) (own_lower m j) && true) (is_in same_end (record { label = negsuc i; inward = true }) (map flip (outs (lowers (suc j) k)))) (ih (next i j m b f))

  lower_label : (k j : ℕ) → j + k ≡ suc m → (e : End) → is_in same_end e (map flip (outs (lowers j k))) ≡ true → (i : ℕ) × (m < i) × (i < 2 * m + 2) × (e.label ≡ negsuc i)
  lower_label zero j q e h = absurd (false≢true h)
  lower_label (suc k) j q e h = go (int_eq e.label (own_lower m j)) refl h (lower_label k (suc j) (move j k m q) e)
    where
      move : (j k m : ℕ) → j + suc k ≡ suc m → suc j + k ≡ suc m
      move j k m e = omega (arith, e)

      above : (j k m : ℕ) → j + suc k ≡ suc m → m < 2 * m + 1 - j
      above j k m e = omega (arith, e)

      within : (j m : ℕ) → 2 * m + 1 - j < 2 * m + 2
      within j m = omega arith

      go : (b : Bool) → int_eq e.label (own_lower m j) ≡ b → ((b && same_bool e.inward true) || is_in same_end e (map flip (outs (lowers (suc j) k)))) ≡ true →
          (is_in same_end e (map flip (outs (lowers (suc j) k))) ≡ true → (i : ℕ) × (m < i) × (i < 2 * m + 2) × (e.label ≡ negsuc i)) →
          (i : ℕ) × (m < i) × (i < 2 * m + 2) × (e.label ≡ negsuc i)
      go true f l ih = (2 * m + 1 - j, above j k m q, within j m, label_test.equal e.label (own_lower m j) f)
      go false f l ih = ih l

  from_zero : (n : ℕ) → 0 + n ≡ n
  from_zero n = omega arith

  least : (i : ℕ) → 0 ≤ i
  least i = omega arith

  -- the In ends are those of s
  inward_there : (i : ℕ) → i < 2 * m + 2 → is_in same_end (record { label = negsuc i; inward = true }) own_opens ≡ not (nat_lt i (suc m))
  inward_there i b =
      is_in-append same_end (record { label = negsuc i; inward = true }) (outs (site_lines own_upper dim 0 (suc m))) (ins_back (lowers 0 (suc m)))
      ∙ ap (λ c. c || is_in same_end (record { label = negsuc i; inward = true }) (ins_back (lowers 0 (suc m)))) (not_in_outs (site_lines own_upper dim 0 (suc m)) (negsuc i))
      ∙ in_back (record { label = negsuc i; inward = true }) (lowers 0 (suc m))
      ∙ go (nat_lt i (suc m)) refl (is_in same_end (record { label = negsuc i; inward = true }) (map flip (outs (lowers 0 (suc m))))) refl
    where
      number : {i j : ℕ} → negsuc i ≡ negsuc j → i ≡ j
      number p = cc

      clash : (i k m : ℕ) → nat_lt i (suc m) ≡ true → m < k → i ≡ k → false ≡ true
      clash i k m e h g = grind (arith, nat_tests)

      above : (i m : ℕ) → nat_lt i (suc m) ≡ false → m < i
      above i m e = grind (arith, nat_tests)

      wide : (i m : ℕ) → i < 2 * m + 2 → i < 2 * m + 2 - 0
      wide i m b = omega (arith, b)

      go : (p : Bool) → nat_lt i (suc m) ≡ p → (q : Bool) → is_in same_end (record { label = negsuc i; inward = true }) (map flip (outs (lowers 0 (suc m)))) ≡ q → q ≡ not p
      go true e true f =
          let t = lower_label (suc m) 0 (from_zero (suc m)) (record { label = negsuc i; inward = true }) f in
          absurd (false≢true (clash i t.0 m e t.1 (number t.3)))
      go true e false f = refl
      go false e q f = sym f ∙ lower_there (suc m) 0 i (from_zero (suc m)) (above i m e) (wide i m b)

  -- the Out ends are those of s'
  outward_there : (i : ℕ) → i < 2 * m + 2 → is_in same_end (record { label = negsuc i; inward = false }) own_opens ≡ nat_lt i (suc m)
  outward_there i b =
      is_in-append same_end (record { label = negsuc i; inward = false }) (outs (site_lines own_upper dim 0 (suc m))) (ins_back (lowers 0 (suc m)))
      ∙ ap (λ c. is_in same_end (record { label = negsuc i; inward = false }) (outs (site_lines own_upper dim 0 (suc m))) || c)
      (in_back (record { label = negsuc i; inward = false }) (lowers 0 (suc m)) ∙ no_out (negsuc i) (lowers 0 (suc m)))
      ∙ go (nat_lt i (suc m)) refl (is_in same_end (record { label = negsuc i; inward = false }) (outs (site_lines own_upper dim 0 (suc m)))) refl
    where
      number : {i j : ℕ} → negsuc i ≡ negsuc j → i ≡ j
      number p = cc

      below : (i m : ℕ) → nat_lt i (suc m) ≡ true → i < suc m
      below i m e = grind (arith, nat_tests)

      clash : (i k m : ℕ) → nat_lt i (suc m) ≡ false → k < suc m → i ≡ k → false ≡ true
      clash i k m e h g = grind (arith, nat_tests)

      go : (p : Bool) → nat_lt i (suc m) ≡ p → (q : Bool) → is_in same_end (record { label = negsuc i; inward = false }) (outs (site_lines own_upper dim 0 (suc m))) ≡ q → (q || false) ≡ p
      go true e q f = ap (λ c. c || false) (sym f ∙ in_outs dim (suc m) (suc m) 0 i (from_zero (suc m)) (least i) (below i m e))
      go false e true f =
          let t = from_outs dim (suc m) (suc m) 0 (from_zero (suc m)) (record { label = negsuc i; inward = false }) f in
          absurd (false≢true (clash i t.0 m e t.1 (number t.2)))
      go false e false f = refl

  pub own_are : AreOpens own_opens (2 * m + 2)
  own_are = record {
    once = λ i b. inward_there i b ∙ sym (ap not (outward_there i b));
    not_positive = λ e h. at e (is_in same_end e (outs (site_lines own_upper dim 0 (suc m)))) refl
        (sym (is_in-append same_end e (outs (site_lines own_upper dim 0 (suc m))) (ins_back (lowers 0 (suc m)))) ∙ h);
  }
    where
      wide : (i m : ℕ) → i < suc m → i < 2 * m + 2
      wide i m b = omega (arith, b)

      at : (e : End) (b : Bool) → is_in same_end e (outs (site_lines own_upper dim 0 (suc m))) ≡ b → (b || is_in same_end e (ins_back (lowers 0 (suc m)))) ≡ true →
          (i : ℕ) × (i < 2 * m + 2) × (e.label ≡ negsuc i)
      at e true f h = let t = from_outs dim (suc m) (suc m) 0 (from_zero (suc m)) e f in (t.0, wide t.0 m t.1, t.2)
      at e false f h = let t = lower_label (suc m) 0 (from_zero (suc m)) e (sym (in_back e (lowers 0 (suc m))) ∙ h) in (t.0, t.2, t.3)

  -- the open ends by number
  module _ (es : List End) (h : (i : ℕ) → i < 2 * m + 2 → is_in same_end (record { label = negsuc i; inward = true }) es ≡ not (nat_lt i (suc m))) where
    upper_part : opens_of es (suc m) ≡ outs (site_lines own_upper dim 0 (suc m))
    upper_part = opens_same dim es (suc m) (λ i b. h i (wide i m b) ∙ ap not (below i m b))
      where
        wide : (i m : ℕ) → i < suc m → i < 2 * m + 2
        wide i m b = omega (arith, b)

        below : (i m : ℕ) → i < suc m → nat_lt i (suc m) ≡ true
        below i m b = grind (arith, nat_tests)

    both_parts : (k j n : ℕ) → j + k ≡ suc m → n ≡ suc m + k → opens_of es n ≡ outs (site_lines own_upper dim 0 (suc m)) ++ ins_back (lowers j k)
    both_parts zero j n e f = ap (opens_of es) (same n m f) ∙ upper_part ∙ sym (append-nil (outs (site_lines own_upper dim 0 (suc m))))
      where
        same : (n m : ℕ) → n ≡ suc m + 0 → n ≡ suc m
        same n m f = omega (arith, f)
    both_parts (suc k) j zero e f = absurd (none k m f)
      where
        none : (k m : ℕ) → 0 ≡ suc m + suc k → ⊥
        none k m f = omega (arith, f)
    both_parts (suc k) j (suc n) e f =
        ap₂ (λ os b. os ++ record { label = negsuc n; inward = b } ∷ []) (both_parts k (suc j) n (move j k m e) (less n k m f))
        (h n (wide n j k m e f) ∙ ap not (above n k m f))
        ∙ append_assoc (outs (site_lines own_upper dim 0 (suc m))) (ins_back (lowers (suc j) k)) (record { label = negsuc n; inward = true } ∷ [])
        ∙ ap (λ i. outs (site_lines own_upper dim 0 (suc m)) ++ (ins_back (lowers (suc j) k) ++ record { label = negsuc i; inward = true } ∷ [])) (number n j k m e f)
        ∙ ap (λ os. outs (site_lines own_upper dim 0 (suc m)) ++ os) (sym (conj_ends_cons (record { label = own_lower m j; inward = false }) (outs (lowers (suc j) k))))
      where
        move : (j k m : ℕ) → j + suc k ≡ suc m → suc j + k ≡ suc m
        move j k m e = omega (arith, e)

        less : (n k m : ℕ) → suc n ≡ suc m + suc k → n ≡ suc m + k
        less n k m f = omega (arith, f)

        wide : (n j k m : ℕ) → j + suc k ≡ suc m → suc n ≡ suc m + suc k → n < 2 * m + 2
        wide n j k m e f = omega (arith, e, f)

        above : (n k m : ℕ) → suc n ≡ suc m + suc k → nat_lt n (suc m) ≡ false
        above n k m f = grind (arith, nat_tests)

        number : (n j k m : ℕ) → j + suc k ≡ suc m → suc n ≡ suc m + suc k → n ≡ 2 * m + 1 - j
        number n j k m e f = omega (arith, e, f)

    pub opens_are : opens_of es (2 * m + 2) ≡ own_opens
    opens_are = both_parts (suc m) 0 (2 * m + 2) (from_zero (suc m)) (twice m)
      where
        twice : (m : ℕ) → 2 * m + 2 ≡ suc m + suc m
        twice m = omega arith

  own_goal : (c : ℕ → Piece) → IsDistinct same_end (goal (chain_links own_link c 0 m) own_opens)
  own_goal c =
      let same : opens_of own_opens (2 * m + 2) ≡ own_opens = opens_are own_opens (λ i b. inward_there i b) in
      distinct_goal (chain_links own_link c 0 m) own_opens
      (own_distinct c (ends_labels own_opens) (subst (λ es. IsDistinct int_eq (ends_labels es)) same (open_distinct own_opens (2 * m + 2)))
      (λ x. ap (λ es. is_in int_eq (pos x) (ends_labels es)) (sym same) ∙ open_negative own_opens (2 * m + 2) x) m 0)

-- an operator chain in the labels of a larger network

module _ (fs : List Factor) (sites : ℕ → List SectorValue) (right : ℕ → LegValue) (t : ℕ → TensorValue) (m : ℕ) (is : IsOperator sites right t m) where
  abbrev pub op_dims : ℕ → ℕ
  op_dims j = total (sites j)

  abbrev pub op_legs : ℕ → List LegValue
  op_legs j = site_leg sites j ∷ flipped (site_leg sites j) ∷ []

  module _ (upper lower link : ℕ → ℤ) where
    abbrev pub op_slots : ℕ → List Slot
    op_slots j = slot_at (site_leg sites j) (upper j) ∷ slot_at (flipped (site_leg sites j)) (lower j) ∷ []

    pub operator_nodes : map node_of (operator_placed upper lower link t m) ≡ operator_chain upper lower link (piece_of right t) m
    operator_nodes = placed_nodes op_legs (λ j. upper j ∷ lower j ∷ []) link right t (λ k. tt) m 0 [] [] tt is

    pub operator_slots : slots (operator_placed upper lower link t m) ≡ chain_slots op_slots (λ k. slot_at (right k) (link k)) [] 0 m
    operator_slots = placed_slots op_legs (λ j. upper j ∷ lower j ∷ []) link right t (λ k. tt) m 0 [] [] tt is

    -- the In ends are those of the links, and of the sites
    pub operator_bonds : ((k : ℕ) → is_positive (link k) ≡ true) → Perm (bonds_from [] (slots (operator_placed upper lower link t m)))
        (chain_links link (piece_of right t) 0 m ++ flat_map (λ k. bonds_from [] (op_slots k)) (numbers 0 (suc m)))
    operator_bonds positive =
        subst (λ ss. Perm (bonds_from [] ss) (chain_links link (piece_of right t) 0 m ++ flat_map (λ k. bonds_from [] (op_slots k)) (numbers 0 (suc m)))) (sym operator_slots)
        (subst (Perm (bonds_from [] (chain_slots op_slots (λ k. slot_at (right k) (link k)) [] 0 m)))
        (ap (λ u. u ++ flat_map (λ k. bonds_from [] (op_slots k)) (numbers 0 (suc m))) (links_same link right t m 0))
        (chain_bonds op_slots (λ k. slot_at (right k) (link k)) positive m 0 []))

    pub site_bonds : ((k : ℕ) → is_positive (lower k) ≡ true) → (k j : ℕ) → flat_map (λ i. bonds_from [] (op_slots i)) (numbers j k) ≡ site_lines lower (λ i. total (sites i)) j k
    site_bonds positive zero j = refl
    site_bonds positive (suc k) j = go (is_positive (lower j)) (positive j) (site_bonds positive k (suc j))
      where
        go : (p : Bool) → p ≡ true → flat_map (λ i. bonds_from [] (op_slots i)) (numbers (suc j) k) ≡ site_lines lower (λ i. total (sites i)) (suc j) k →
            cond p (record { label = lower j; dim = total (sites j); twisted = false } ∷ []) [] ++ flat_map (λ i. bonds_from [] (op_slots i)) (numbers (suc j) k) ≡
            record { label = lower j; dim = total (sites j); twisted = false } ∷ site_lines lower (λ i. total (sites i)) (suc j) k
        go true e ih = ap (λ bs. record { label = lower j; dim = total (sites j); twisted = false } ∷ bs) ih
        go false e ih = absurd (false≢true e)

    pub operator_lines : (line : ℤ → List SectorValue) → ((k : ℕ) → line (upper k) ≡ sites k) → ((k : ℕ) → line (lower k) ≡ sites k) → ((k : ℕ) → line (link k) ≡ (right k).sectors) →
        HaveSectorsOn line (slots (operator_placed upper lower link t m))
    operator_lines line h l k =
        subst (HaveSectorsOn line) (sym operator_slots)
        (all_chain line op_slots (λ i. slot_at (right i) (link i)) (λ i. (h i, (l i, tt))) k m 0 [] tt)

  none_own : (k j : ℕ) → flat_map (λ i. bonds_from [] (op_slots own_upper (own_lower m) own_link i)) (numbers j k) ≡ []
  none_own zero j = refl
  none_own (suc k) j = none_own k (suc j)

  pub own_net : IsNetwork (map node_of (operator_placed own_upper (own_lower m) own_link t m)) (chain_links own_link (piece_of right t) 0 m) (own_opens op_dims m)
  own_net =
      subst (λ ns. IsNetwork ns (chain_links own_link (piece_of right t) 0 m) (own_opens op_dims m)) (sym (operator_nodes own_upper (own_lower m) own_link))
      (record {
        distinct = distinct-perm same_end end_test (perm-sym (operator_perm own_upper (own_lower m) own_link (piece_of right t) op_dims m)) (own_goal op_dims m (piece_of right t));
        complete = operator_perm own_upper (own_lower m) own_link (piece_of right t) op_dims m;
      })

  -- the lines of the operator alone have the sectors that they have in the larger network
  pub own_lines : (upper lower link : ℕ → ℤ) (line : ℤ → List SectorValue) → ((k : ℕ) → line (upper k) ≡ sites k) → ((k : ℕ) → line (lower k) ≡ sites k) → ((k : ℕ) → line (link k) ≡ (right k).sectors) →
      HaveSectorsOn (λ i. line (operator_names m upper lower link i)) (slots (operator_placed own_upper (own_lower m) own_link t m))
  own_lines upper lower link line h l k =
      subst (HaveSectorsOn (λ i. line (operator_names m upper lower link i))) (sym (operator_slots own_upper (own_lower m) own_link))
      (all_chain_below (λ i. line (operator_names m upper lower link i)) (op_slots own_upper (own_lower m) own_link) (λ i. slot_at (right i) (own_link i)) (suc m)
      (λ i b. (ap line (name_upper m upper lower link i b) ∙ h i, (ap line (name_lower m upper lower link i b) ∙ l i, tt)))
      k m 0 [] (last m) tt)
    where
      last : (m : ℕ) → 0 + m < suc m
      last m = omega arith

  -- the matrix element by the sectors of the lines in the larger network
  pub element_is : (upper lower link : ℕ → ℤ) (line : ℤ → List SectorValue) → ((k : ℕ) → line (upper k) ≡ sites k) → ((k : ℕ) → line (lower k) ≡ sites k) →
      ((k : ℕ) → line (link k) ≡ (right k).sectors) → (u s : List ℕ) →
      element_of fs t m u s ≡ piece_element (λ l v. parity_at fs (line (operator_names m upper lower link l)) v) op_dims (piece_of right t) m u s
  element_is upper lower link line h l k u s =
      plain_value fs (operator_placed own_upper (own_lower m) own_link t m) (2 * m + 2) (chain_links own_link (piece_of right t) 0 m) (own_opens op_dims m)
      own_net positive (own_are op_dims m)
      (opens_are op_dims m (word (map node_of (operator_placed own_upper (own_lower m) own_link t m)))
      (λ i b. negative_in (map node_of (operator_placed own_upper (own_lower m) own_link t m)) (chain_links own_link (piece_of right t) 0 m) (own_opens op_dims m) (2 * m + 2)
      own_net positive (own_are op_dims m) i true ∙ inward_there op_dims m i b))
      (subst (Perm (bonds_from [] (slots (operator_placed own_upper (own_lower m) own_link t m))))
      (ap (λ bs. chain_links own_link (piece_of right t) 0 m ++ bs) (none_own (suc m) 0) ∙ append-nil (chain_links own_link (piece_of right t) 0 m))
      (operator_bonds own_upper (own_lower m) own_link (λ j. above j)))
      (λ i. line (operator_names m upper lower link i)) (own_lines upper lower link line h l k) (λ i v. parity_at fs (line (operator_names m upper lower link i)) v) (λ e i v. refl) (u ++ reverse s)
      ∙ ap (λ ns. flat (λ i v. parity_at fs (line (operator_names m upper lower link i)) v) ns (chain_links own_link (piece_of right t) 0 m) (own_opens op_dims m) (at_values (own_opens op_dims m) (u ++ reverse s)))
      (operator_nodes own_upper (own_lower m) own_link)
    where
      positive : ArePositive (labels (chain_links own_link (piece_of right t) 0 m))
      positive = links_positive (piece_of right t) m 0

      above : (j : ℕ) → is_positive (pos (suc j)) ≡ true
      above j = grind (arith, nat_tests)
