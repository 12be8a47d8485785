use Rattle.std.proofs.lemmas.List.{map-append}
use Rattle.std.proofs.Common.{◌≡◌, ℕ, zero, suc, ◌<◌, ℤ, negsuc, Bool, true, false, not, ◌&&◌, ◌||◌, cond, List, [], ◌∷◌, ◌++◌, refl, sym, ◌∙◌, ap, ap₂, subst, map, ◌⊎◌, inl, inr, eq-or-lt_of_le, arith, int_eq}
use Rattle.std.proofs.lemmas.Bool.{and_parts, or_cases, or_from, or_left, or_right, false≢true}
use Rattle.std.specs.Prelude.{int_lt}
use Rattle.qn_sign.specs.Sign.{is_in, IsDistinct, Perm}
use Rattle.qn_sign.specs.Sign.Perm.{none, keep, swap, then_by}
use Rattle.qn_value.specs.Networks.{End, Bond, same_end, word, pairs_of, goal, labels, IsNetwork}
use Rattle.qn_value.specs.Labels.{Placed, Slot, slots_of, slots, ends, node_of, is_positive, bond_at, bonds_from, place_bond, in_label_order, bonds_of, open_end, opens_of, IsWellLabelled}
use Rattle.qn_sign.proofs.Parity.{perm-refl, perm-sym}
use Rattle.qn_sign.proofs.Order.{is_in-append, is_in-perm, distinct-perm}
use Rattle.qn_sign.proofs.Members.{perm_from_members}
use Rattle.qn_value.proofs.Sums.{label_test, perm-map}
use Rattle.qn_value.proofs.NetLaws.{end_test, ends-labels}
use Rattle.qn_facts.proofs.Booleans.{same_tests}

abbrev in_end : ℤ → End
in_end l = record { label = l; inward = true }

abbrev out_end : ℤ → End
out_end l = record { label = l; inward = false }

-- the word of the nodes is the list of the ends

pub word_ends : (ps : List Placed) → word (map node_of ps) ≡ ends (slots ps)
word_ends [] = refl
word_ends (p ∷ ps) =
    ap (λ es. ends (slots_of p.tensor.legs p.labels) ++ es) (word_ends ps)
    ∙ sym (map-append (λ s. s.end) (slots_of p.tensor.legs p.labels) (slots ps))

-- the order of the bonds

pub perm_place : (b : Bond) (bs : List Bond) → Perm (b ∷ bs) (place_bond b bs)
perm_place b [] = perm-refl (b ∷ [])
perm_place b (c ∷ cs) = go (int_lt b.label c.label) (perm_place b cs)
  where
    go : (t : Bool) → Perm (b ∷ cs) (place_bond b cs) → Perm (b ∷ c ∷ cs) (cond t (b ∷ c ∷ cs) (c ∷ place_bond b cs))
    go true ih = perm-refl (b ∷ c ∷ cs)
    go false ih = then_by swap (keep ih)

pub perm_order : (bs : List Bond) → Perm bs (in_label_order bs)
perm_order [] = none
perm_order (b ∷ bs) = then_by (keep (perm_order bs)) (perm_place b (in_label_order bs))

-- the labels of the bonds

bonds_labels : (tw : List ℤ) (ss : List Slot) (l : ℤ) → is_in int_eq l (labels (bonds_from tw ss)) ≡ (is_positive l && is_in same_end (in_end l) (ends ss))
bonds_labels tw [] l = nothing (is_positive l)
  where
    nothing : (p : Bool) → false ≡ (p && false)
    nothing p = grind arith
bonds_labels tw (s ∷ ss) l =
    go s.end.inward (is_positive s.end.label) refl (bonds_labels tw ss l)
  where
    same_sign : int_eq l s.end.label ≡ true → is_positive l ≡ is_positive s.end.label
    same_sign e = ap is_positive (label_test.equal l s.end.label e)

    kept : (q p r r' : Bool) → (q ≡ true → p ≡ true) → r ≡ (p && r') → (q || r) ≡ (p && ((q && true) || r'))
    kept true p r r' h e = sym (ap (λ b. b && true) (h refl))
    kept false p r r' h e = e

    passed : (q p r r' : Bool) → r ≡ (p && r') → r ≡ (p && ((q && false) || r'))
    passed q p r r' e = grind arith

    dropped : (q p r r' : Bool) → (q ≡ true → p ≡ false) → r ≡ (p && r') → r ≡ (p && ((q && true) || r'))
    dropped true p r r' h e = e ∙ ap (λ b. b && r') (h refl) ∙ sym (ap (λ b. b && true) (h refl))
    dropped false p r r' h e = e

    go : (i b : Bool) → is_positive s.end.label ≡ b → is_in int_eq l (labels (bonds_from tw ss)) ≡ (is_positive l && is_in same_end (in_end l) (ends ss)) →
        is_in int_eq l (labels (cond (i && b) (bond_at tw s ∷ bonds_from tw ss) (bonds_from tw ss)))
        ≡ (is_positive l && ((int_eq l s.end.label && i) || is_in same_end (in_end l) (ends ss)))
    go true true e ih = kept (int_eq l s.end.label) (is_positive l) _ _ (λ q. same_sign q ∙ e) ih
    go true false e ih = dropped (int_eq l s.end.label) (is_positive l) _ _ (λ q. same_sign q ∙ e) ih
    go false b e ih = passed (int_eq l s.end.label) (is_positive l) _ _ ih

bonds_distinct : (tw : List ℤ) (ss : List Slot) → IsDistinct same_end (ends ss) → IsDistinct int_eq (labels (bonds_from tw ss))
bonds_distinct tw [] d = tt
bonds_distinct tw (s ∷ ss) d = go s.end.inward refl (is_positive s.end.label) (bonds_distinct tw ss d.1)
  where
    none_of : (p r : Bool) → r ≡ false → (p && r) ≡ false
    none_of p r e = grind arith

    go : (i : Bool) → s.end.inward ≡ i → (b : Bool) → IsDistinct int_eq (labels (bonds_from tw ss)) →
        IsDistinct int_eq (labels (cond (i && b) (bond_at tw s ∷ bonds_from tw ss) (bonds_from tw ss)))
    go true e true ih = (
      bonds_labels tw ss s.end.label ∙ none_of (is_positive s.end.label) _
          (subst (λ (x : End). is_in same_end x (ends ss) ≡ false) (λ j. record { label = s.end.label; inward = e j }) d.0),
      ih,
    )
    go true e false ih = ih
    go false e b ih = ih

pub pairs_distinct : (bs : List Bond) → IsDistinct int_eq (labels bs) → IsDistinct same_end (pairs_of bs)
pairs_distinct [] d = tt
pairs_distinct (b ∷ bs) d = (
  or_from (same_end (in_end b.label) (out_end b.label)) (is_in same_end (in_end b.label) (pairs_of bs)) (arrows (int_eq b.label b.label)) (ends-labels (in_end b.label) bs ∙ d.0),
  (ends-labels (out_end b.label) bs ∙ d.0, pairs_distinct bs d.1),
)
  where
    arrows : (p : Bool) → (p && false) ≡ false
    arrows p = grind arith

-- two lists with no repeats and no common element
distinct-append : (u v : List End) → IsDistinct same_end u → IsDistinct same_end v → ((e : End) → is_in same_end e u ≡ true → is_in same_end e v ≡ false) →
    IsDistinct same_end (u ++ v)
distinct-append [] v du dv h = dv
distinct-append (x ∷ u) v du dv h = (
  is_in-append same_end x u v ∙ or_from (is_in same_end x u) (is_in same_end x v) du.0 (h x (or_left (same_end x x) (is_in same_end x u) (end_test.itself x))),
  distinct-append u v du.1 dv (λ e k. h e (or_right (same_end e x) (is_in same_end e u) k)),
)

-- the open ends

open_in : (es : List End) (n i : ℕ) → i < n → is_in same_end (open_end es i) (opens_of es n) ≡ true
open_in es zero i h = absurd (omega arith)
open_in es (suc n) i h = go (eq-or-lt_of_le (omega arith)) (open_in es n i)
  where
    go : (i ≡ n) ⊎ (i < n) → (i < n → is_in same_end (open_end es i) (opens_of es n) ≡ true) → is_in same_end (open_end es i) (opens_of es n ++ open_end es n ∷ []) ≡ true
    go (inl e) ih =
        is_in-append same_end (open_end es i) (opens_of es n) (open_end es n ∷ [])
        ∙ or_right (is_in same_end (open_end es i) (opens_of es n)) (is_in same_end (open_end es i) (open_end es n ∷ []))
        (or_left (same_end (open_end es i) (open_end es n)) false (subst (λ m. same_end (open_end es i) (open_end es m) ≡ true) e (end_test.itself (open_end es i))))
    go (inr l) ih =
        is_in-append same_end (open_end es i) (opens_of es n) (open_end es n ∷ [])
        ∙ or_left (is_in same_end (open_end es i) (opens_of es n)) (is_in same_end (open_end es i) (open_end es n ∷ [])) (ih l)

open_from : (es : List End) (n : ℕ) (e : End) → is_in same_end e (opens_of es n) ≡ true → (i : ℕ) × (i < n) × (e ≡ open_end es i)
open_from es zero e h = absurd (false≢true h)
open_from es (suc n) e h = go (or_cases (is_in same_end e (opens_of es n)) (is_in same_end e (open_end es n ∷ [])) (sym (is_in-append same_end e (opens_of es n) (open_end es n ∷ [])) ∙ h)) (open_from es n e)
  where
    alone : (b : Bool) → (b || false) ≡ true → b ≡ true
    alone b e = grind arith

    go : (is_in same_end e (opens_of es n) ≡ true) ⊎ (is_in same_end e (open_end es n ∷ []) ≡ true) →
        (is_in same_end e (opens_of es n) ≡ true → (i : ℕ) × (i < n) × (e ≡ open_end es i)) → (i : ℕ) × (i < suc n) × (e ≡ open_end es i)
    go (inl k) ih = let t : (i : ℕ) × (i < n) × (e ≡ open_end es i) = ih k in (t.0, omega (arith, t.1), t.2)
    go (inr k) ih = (n, omega arith, end_test.equal e (open_end es n) (alone (same_end e (open_end es n)) k))

opens_distinct : (es : List End) (n : ℕ) → IsDistinct same_end (opens_of es n)
opens_distinct es zero = tt
opens_distinct es (suc n) =
    distinct-append (opens_of es n) (open_end es n ∷ []) (opens_distinct es n) (refl, tt) (λ e k. other e (open_from es n e k))
  where
    other : (e : End) → (i : ℕ) × (i < n) × (e ≡ open_end es i) → is_in same_end e (open_end es n ∷ []) ≡ false
    other e t = at (same_end e (open_end es n)) refl
      where
        apart : open_end es t.0 ≡ open_end es n → ⊥
        apart p =
            let q : t.0 ≡ n = number (ap (λ x. x.label) p) in
            omega (arith, t.1, q)
          where
            number : {i j : ℕ} → negsuc i ≡ negsuc j → i ≡ j
            number p = cc

        at : (b : Bool) → same_end e (open_end es n) ≡ b → (b || false) ≡ false
        at false f = refl
        at true f = absurd (apart (sym t.2 ∙ end_test.equal e (open_end es n) f))

module _ (tw : List ℤ) (ss : List Slot) (n : ℕ) (w : IsWellLabelled (ends ss) n) where
  abbrev es : List End
  es = ends ss

  bond_in : (e : End) → is_in same_end e (pairs_of (bonds_of tw ss)) ≡ (is_positive e.label && is_in same_end (in_end e.label) es)
  bond_in e =
      ends-labels e (bonds_of tw ss)
      ∙ is_in-perm int_eq e.label (perm-map (λ b. b.label) (perm-sym (perm_order (bonds_from tw ss))))
      ∙ bonds_labels tw ss e.label

  -- the ends of a positive label are there together
  either_end : (e : End) → is_positive e.label ≡ true → is_in same_end (in_end e.label) es ≡ is_in same_end e es
  either_end e p = go e.inward refl
    where
      go : (i : Bool) → e.inward ≡ i → is_in same_end (in_end e.label) es ≡ is_in same_end e es
      go true q = λ j. is_in same_end (record { label = e.label; inward = sym q j }) es
      go false q = w.paired e.label p ∙ (λ j. is_in same_end (record { label = e.label; inward = sym q j }) es)

  -- an end with an open label is the open end, exactly where it is there
  open_there : (e : End) (i : ℕ) → i < n → e.label ≡ negsuc i → is_in same_end e es ≡ true → e ≡ open_end es i
  open_there e i l q h = λ j. record { label = q j; inward = arrow e.inward refl j }
    where
      here : (b : Bool) → e.inward ≡ b → is_in same_end (record { label = negsuc i; inward = b }) es ≡ true
      here b f = subst (λ (x : End). is_in same_end x es ≡ true) (λ j. record { label = q j; inward = f j }) h

      arrow : (b : Bool) → e.inward ≡ b → e.inward ≡ is_in same_end (record { label = negsuc i; inward = true }) es
      arrow true f = f ∙ sym (here true f)
      arrow false f = f ∙ sym (w.open_once i l ∙ ap not (here false f))

  there_open : (i : ℕ) → i < n → is_in same_end (open_end es i) es ≡ true
  there_open i l = go (is_in same_end (in_end (negsuc i)) es) refl
    where
      unturn : (b : Bool) → false ≡ not b → b ≡ true
      unturn b e = grind arith

      go : (b : Bool) → is_in same_end (in_end (negsuc i)) es ≡ b → is_in same_end (record { label = negsuc i; inward = b }) es ≡ true
      go true f = f
      go false f = unturn (is_in same_end (out_end (negsuc i)) es) (sym f ∙ w.open_once i l)

  to_goal : (e : End) → is_in same_end e es ≡ true → is_in same_end e (goal (bonds_of tw ss) (opens_of es n)) ≡ true
  to_goal e h = is_in-append same_end e (pairs_of (bonds_of tw ss)) (opens_of es n) ∙ go (w.no_more e h)
    where
      go : (is_positive e.label ≡ true) ⊎ ((i : ℕ) × (i < n) × (e.label ≡ negsuc i)) →
          (is_in same_end e (pairs_of (bonds_of tw ss)) || is_in same_end e (opens_of es n)) ≡ true
      go (inl p) =
          or_left (is_in same_end e (pairs_of (bonds_of tw ss))) (is_in same_end e (opens_of es n))
          (bond_in e ∙ ap₂ ◌&&◌ p (either_end e p ∙ h))
      go (inr t) =
          or_right (is_in same_end e (pairs_of (bonds_of tw ss))) (is_in same_end e (opens_of es n))
          (subst (λ (x : End). is_in same_end x (opens_of es n) ≡ true) (sym (open_there e t.0 t.1 t.2 h)) (open_in es n t.0 t.1))

  from_goal : (e : End) → is_in same_end e (goal (bonds_of tw ss) (opens_of es n)) ≡ true → is_in same_end e es ≡ true
  from_goal e h = go (or_cases (is_in same_end e (pairs_of (bonds_of tw ss))) (is_in same_end e (opens_of es n)) (sym (is_in-append same_end e (pairs_of (bonds_of tw ss)) (opens_of es n)) ∙ h))
    where
      go : (is_in same_end e (pairs_of (bonds_of tw ss)) ≡ true) ⊎ (is_in same_end e (opens_of es n) ≡ true) → is_in same_end e es ≡ true
      go (inl k) =
          let p = and_parts (is_positive e.label) (is_in same_end (in_end e.label) es) (sym (bond_in e) ∙ k) in
          sym (either_end e p.0) ∙ p.1
      go (inr k) =
          let t = open_from es n e k in
          subst (λ (x : End). is_in same_end x es ≡ true) (sym t.2) (there_open t.0 t.1)

  goal_distinct : IsDistinct same_end (goal (bonds_of tw ss) (opens_of es n))
  goal_distinct =
      distinct-append (pairs_of (bonds_of tw ss)) (opens_of es n)
      (pairs_distinct (bonds_of tw ss) (distinct-perm int_eq label_test (perm-map (λ b. b.label) (perm_order (bonds_from tw ss))) (bonds_distinct tw ss w.distinct)))
      (opens_distinct es n)
      (λ e k. apart e (and_parts (is_positive e.label) (is_in same_end (in_end e.label) es) (sym (bond_in e) ∙ k)).0 (is_in same_end e (opens_of es n)) refl)
    where
      apart : (e : End) → is_positive e.label ≡ true → (b : Bool) → is_in same_end e (opens_of es n) ≡ b → b ≡ false
      apart e p false f = refl
      apart e p true f =
          let t = open_from es n e f in
          sym p ∙ ap (λ (x : End). is_positive x.label) t.2

  pub goal_perm : Perm es (goal (bonds_of tw ss) (opens_of es n))
  goal_perm =
      perm_from_members same_end end_test es (goal (bonds_of tw ss) (opens_of es n)) w.distinct goal_distinct
      (λ e. same_tests (is_in same_end e es) (is_in same_end e (goal (bonds_of tw ss) (opens_of es n))) (to_goal e) (from_goal e))

pub plain_network : (ps : List Placed) (tw : List ℤ) (n : ℕ) → IsWellLabelled (ends (slots ps)) n →
    IsNetwork (map node_of ps) (bonds_of tw (slots ps)) (opens_of (ends (slots ps)) n)
plain_network ps tw n w = record {
  distinct = subst (IsDistinct same_end) (sym (word_ends ps)) w.distinct;
  complete = subst (λ es. Perm es (goal (bonds_of tw (slots ps)) (opens_of (ends (slots ps)) n))) (sym (word_ends ps)) (goal_perm tw (slots ps) n w);
}
