-- Couples of places that are the two ends of each line of a contraction.
use Rattle.std.proofs.Common.{◌≡◌, ◌≢◌, ◌<◌, ◌==◌, ℕ, zero, suc, ℤ, pos, Bool, true, false, ◌||◌, List, [], ◌∷◌, refl, sym, ◌∙◌, ap, subst, map, length, get_or, ◌⊎◌, inl, inr, int_eq, eqb-true, eq-eqb, arith}
use Rattle.std.specs.List.{All, flat_map}
use Rattle.std.proofs.lemmas.List.{get_or-map as get_or-map-in}
use Rattle.std.proofs.Math.ListN.{get_or-map}
use Rattle.std.proofs.lemmas.Bool.{or_cases, or_left, or_right, or_from, false≢true}
use Rattle.qn_sign.specs.Sign.{is_in, IsDistinct}
use Rattle.qn_charge.specs.declared.factor.Factor.{Factor}
use Rattle.qn_index.specs.Legs.{SectorValue, LegValue}
use Rattle.qn_value.specs.Networks.{End, Node, Bond, same_end, word, pairs_of, labels, kept, IsNetwork}
use Rattle.qn_value.specs.Labels.{Placed}
use Rattle.qn_value.specs.Fluxes.{arrow_of}
use Rattle.qn_value.specs.Local.{no_leg, places_of, is_coupled, IsCouple, IsCoupling}
use Rattle.qn_sign.proofs.Order.{distinct-perm, distinct_first}
use Rattle.qn_sign.proofs.Positions.{is_in-at}
use Rattle.qn_value.proofs.NetLaws.{end_test, labels_distinct}
use Rattle.qn_value.proofs.Sums.{label_test}
use Rattle.qn_value.proofs.BlockRows.{all-nil, all-cons}
use Rattle.qn_value.proofs.BlocksLemmas.{length-legs}
use Rattle.qn_value.proofs.CoupledLemmas.{word_of}
use Rattle.qn_net.proofs.Held.{AreNodesOf, all_legs, all_labels}
use Rattle.qn_net.proofs.CoupledNodes.{no_end, label_in, IsCoupledBy}

-- equal things of a list without repeats stand at one place
pub one_place : (xs : List End) (d : End) → IsDistinct same_end xs → (i j : ℕ) → i < length xs → j < length xs → get_or xs i d ≡ get_or xs j d → i ≡ j
one_place [] d u i j h k e = absurd (omega (arith, h))
one_place (x ∷ xs) d u zero zero h k e = refl
one_place (x ∷ xs) d u zero (suc j) h k e = absurd (false≢true (sym u.0 ∙ subst (λ y. is_in same_end y xs ≡ true) (sym e) (is_in-at same_end end_test xs j d (omega (arith, k)))))
one_place (x ∷ xs) d u (suc i) zero h k e = absurd (false≢true (sym u.0 ∙ subst (λ y. is_in same_end y xs ≡ true) e (is_in-at same_end end_test xs i d (omega (arith, h)))))
one_place (x ∷ xs) d u (suc i) (suc j) h k e = ap suc (one_place xs d u.1 i j (omega (arith, h)) (omega (arith, k)) e)

-- the two places of a couple, by a list of labels
module _ (f : ℕ → ℤ) where
  head_is : {x y : ℤ} {xs ys : List ℤ} → x ∷ xs ≡ y ∷ ys → x ≡ y
  head_is e = cc e

  tail_is : {x y : ℤ} {xs ys : List ℤ} → x ∷ xs ≡ y ∷ ys → xs ≡ ys
  tail_is e = cc e

  pub equal_places : (cs : List (ℕ × ℕ)) → map (λ c. f c.0) cs ≡ map (λ c. f c.1) cs → All (λ c. f c.0 ≡ f c.1) cs
  equal_places [] e = all-nil (λ (c : ℕ × ℕ). f c.0 ≡ f c.1)
  equal_places (c ∷ cs) e = all-cons (λ (c : ℕ × ℕ). f c.0 ≡ f c.1) c cs (head_is e) (equal_places cs (tail_is e))

  -- the label of a place in couples is in the list
  pub label_of_place : (cs : List (ℕ × ℕ)) (ks : List ℤ) → map (λ c. f c.0) cs ≡ ks → map (λ c. f c.1) cs ≡ ks → (i : ℕ) → is_coupled cs i ≡ true → is_in int_eq (f i) ks ≡ true
  label_of_place [] ks p q i h = absurd (false≢true h)
  label_of_place (c ∷ cs) [] p q i h = absurd (cc p)
  label_of_place (c ∷ cs) (k ∷ ks) p q i h = first (label_of_place cs ks (tail_is p) (tail_is q) i) (or_cases (i == c.0) ((i == c.1) || is_coupled cs i) h)
    where
      here : (j : ℕ) → (i == j) ≡ true → f j ≡ k → (int_eq (f i) k || is_in int_eq (f i) ks) ≡ true
      here j e g = or_left (int_eq (f i) k) (is_in int_eq (f i) ks) (subst (λ l. int_eq (f i) l ≡ true) (ap f (eqb-true i j e) ∙ g) (label_test.itself (f i)))

      second : (is_coupled cs i ≡ true → is_in int_eq (f i) ks ≡ true) → ((i == c.1) ≡ true) ⊎ (is_coupled cs i ≡ true) → (int_eq (f i) k || is_in int_eq (f i) ks) ≡ true
      second ih (inl e) = here c.1 e (head_is q)
      second ih (inr e) = or_right (int_eq (f i) k) (is_in int_eq (f i) ks) (ih e)

      first : (is_coupled cs i ≡ true → is_in int_eq (f i) ks ≡ true) → ((i == c.0) ≡ true) ⊎ (((i == c.1) || is_coupled cs i) ≡ true) → (int_eq (f i) k || is_in int_eq (f i) ks) ≡ true
      first ih (inl e) = here c.0 e (head_is p)
      first ih (inr e) = second ih (or_cases (i == c.1) (is_coupled cs i) e)

  -- a label of the list has a couple
  pub couple_with : (cs : List (ℕ × ℕ)) (ks : List ℤ) (P : ℕ × ℕ → Type 0) → All P cs → map (λ c. f c.0) cs ≡ ks → map (λ c. f c.1) cs ≡ ks → (l : ℤ) → is_in int_eq l ks ≡ true →
      (c : ℕ × ℕ) × P c × (f c.0 ≡ l) × (f c.1 ≡ l) × (is_coupled cs c.0 ≡ true) × (is_coupled cs c.1 ≡ true)
  couple_with [] [] P h p q l i = absurd (false≢true i)
  couple_with [] (k ∷ ks) P h p q l i = absurd (cc p)
  couple_with (c ∷ cs) [] P h p q l i = absurd (cc p)
  couple_with (c ∷ cs) (k ∷ ks) P h p q l i = go (or_cases (int_eq l k) (is_in int_eq l ks) i) (couple_with cs ks P (λ m d b. h (suc m) d (omega (arith, b))) (tail_is p) (tail_is q) l)
    where
      itself : (j : ℕ) → (j == j) ≡ true
      itself j = eq-eqb j j refl

      go : (int_eq l k ≡ true) ⊎ (is_in int_eq l ks ≡ true) →
          (is_in int_eq l ks ≡ true → (d : ℕ × ℕ) × P d × (f d.0 ≡ l) × (f d.1 ≡ l) × (is_coupled cs d.0 ≡ true) × (is_coupled cs d.1 ≡ true)) →
          (d : ℕ × ℕ) × P d × (f d.0 ≡ l) × (f d.1 ≡ l) × (is_coupled (c ∷ cs) d.0 ≡ true) × (is_coupled (c ∷ cs) d.1 ≡ true)
      go (inl e) ih = (
        c,
        h 0 c (omega arith),
        head_is p ∙ sym (label_test.equal l k e),
        head_is q ∙ sym (label_test.equal l k e),
        or_left (c.0 == c.0) ((c.0 == c.1) || is_coupled cs c.0) (itself c.0),
        or_right (c.1 == c.0) ((c.1 == c.1) || is_coupled cs c.1) (or_left (c.1 == c.1) (is_coupled cs c.1) (itself c.1)),
      )
      go (inr e) ih = let r = ih e in (
        r.0,
        r.1,
        r.2,
        r.3,
        or_right (r.0.0 == c.0) ((r.0.0 == c.1) || is_coupled cs r.0.0) (or_right (r.0.0 == c.1) (is_coupled cs r.0.0) r.4),
        or_right (r.0.1 == c.0) ((r.0.1 == c.1) || is_coupled cs r.0.1) (or_right (r.0.1 == c.1) (is_coupled cs r.0.1) r.5),
      )

  -- no place stands twice
  pub places_distinct : (cs : List (ℕ × ℕ)) (ks : List ℤ) → IsDistinct int_eq ks → All (λ c. c.0 ≢ c.1) cs → map (λ c. f c.0) cs ≡ ks → map (λ c. f c.1) cs ≡ ks → IsDistinct ◌==◌ (places_of cs)
  places_distinct [] ks d h p q = tt
  places_distinct (c ∷ cs) [] d h p q = absurd (cc p)
  places_distinct (c ∷ cs) (k ∷ ks) d h p q = (
    or_from (c.0 == c.1) (is_coupled cs c.0) (differ (c.0 == c.1) refl) (fresh c.0 (head_is p) (is_coupled cs c.0) refl),
    (fresh c.1 (head_is q) (is_coupled cs c.1) refl, places_distinct cs ks d.1 (λ m e b. h (suc m) e (omega (arith, b))) (tail_is p) (tail_is q)),
  )
    where
      differ : (b : Bool) → (c.0 == c.1) ≡ b → b ≡ false
      differ false e = refl
      differ true e = absurd (h 0 c (omega arith) (eqb-true c.0 c.1 e))

      fresh : (i : ℕ) → f i ≡ k → (b : Bool) → is_coupled cs i ≡ b → b ≡ false
      fresh i e false g = refl
      fresh i e true g = absurd (false≢true (sym d.0 ∙ subst (λ l. is_in int_eq l ks ≡ true) e (label_of_place cs ks (tail_is p) (tail_is q) i g)))

same_arrow : (b c : Bool) → arrow_of b ≡ arrow_of c → b ≡ c
same_arrow true true e = refl
same_arrow false false e = refl
same_arrow true false e = absurd (cc e)
same_arrow false true e = absurd (cc e)

-- of three truth values two are equal
two_of : (a b c : Bool) → (b ≡ c → ⊥) → (a ≡ b) ⊎ (a ≡ c)
two_of true true c n = inl refl
two_of true false true n = inr refl
two_of true false false n = absurd (n refl)
two_of false false c n = inl refl
two_of false true false n = inr refl
two_of false true true n = absurd (n refl)

module _ (fs : List Factor) (sectors : ℤ → List SectorValue) (ps : List Placed) (ns : List Node) (held : AreNodesOf fs sectors ps ns) (cs : List (ℕ × ℕ)) (bonds : List Bond)
    (net : IsNetwork ns bonds (kept ns bonds))
    (first : map (λ c. label_in ns c.0) cs ≡ labels bonds) (second : map (λ c. label_in ns c.1) cs ≡ labels bonds)
    (within : All (λ c. (c.0 < length (word ns)) × (c.1 < length (word ns)) × (c.0 ≢ c.1)) cs) where
  abbrev at : ℕ → End
  at i = get_or (word ns) i no_end

  same : All (λ c. label_in ns c.0 ≡ label_in ns c.1) cs
  same = equal_places (label_in ns) cs (first ∙ sym second)

  labels_apart : IsDistinct int_eq (labels bonds)
  labels_apart = labels_distinct bonds (distinct_first same_end (pairs_of bonds) (kept ns bonds) (distinct-perm same_end end_test net.complete net.distinct))

  -- the two legs of a couple have opposite arrows
  opposite : (c : ℕ × ℕ) → (c.0 < length (word ns)) × (c.1 < length (word ns)) × (c.0 ≢ c.1) → label_in ns c.0 ≡ label_in ns c.1 → (at c.0).inward ≡ (at c.1).inward → ⊥
  opposite c w e a = w.2 (one_place (word ns) no_end net.distinct c.0 c.1 w.0 w.1 (λ i. record { label = e i; inward = a i }))

  pub coupled_by : IsCoupledBy ns bonds cs
  coupled_by = record { same = same; coupled = λ i l. go i l (is_coupled cs i) refl (is_in int_eq (label_in ns i) (labels bonds)) refl }
    where
      -- a place with a label of the bonds is in couples
      back : (i : ℕ) → i < length (word ns) → is_in int_eq (label_in ns i) (labels bonds) ≡ true → is_coupled cs i ≡ true
      back i l h =
          let r = couple_with (label_in ns) cs (labels bonds) (λ c. (c.0 < length (word ns)) × (c.1 < length (word ns)) × (c.0 ≢ c.1)) within first second (label_in ns i) h in
          by r.0 r.1 r.2 r.3 r.4 r.5 (two_of (at i).inward (at r.0.0).inward (at r.0.1).inward (opposite r.0 r.1 (r.2 ∙ sym r.3)))
        where
          by : (c : ℕ × ℕ) → (c.0 < length (word ns)) × (c.1 < length (word ns)) × (c.0 ≢ c.1) → label_in ns c.0 ≡ label_in ns i → label_in ns c.1 ≡ label_in ns i → is_coupled cs c.0 ≡ true → is_coupled cs c.1 ≡ true →
              ((at i).inward ≡ (at c.0).inward) ⊎ ((at i).inward ≡ (at c.1).inward) → is_coupled cs i ≡ true
          by c w e f u v (inl a) = subst (λ j. is_coupled cs j ≡ true) (sym (one_place (word ns) no_end net.distinct i c.0 l w.0 (λ t. record { label = sym e t; inward = a t }))) u
          by c w e f u v (inr a) = subst (λ j. is_coupled cs j ≡ true) (sym (one_place (word ns) no_end net.distinct i c.1 l w.1 (λ t. record { label = sym f t; inward = a t }))) v

      go : (i : ℕ) → i < length (word ns) → (a : Bool) → is_coupled cs i ≡ a → (b : Bool) → is_in int_eq (label_in ns i) (labels bonds) ≡ b → a ≡ b
      go i l true e true f = refl
      go i l false e false f = refl
      go i l true e false f = absurd (false≢true (sym f ∙ label_of_place (label_in ns) cs (labels bonds) first second i e))
      go i l false e true f = absurd (false≢true (sym e ∙ back i l f))

  leg_at_place : (i : ℕ) → i < length (word ns) → get_or (word_of (map (λ p. p.tensor) ps)) i no_leg ≡ record { arrow = arrow_of (at i).inward; sectors = sectors (label_in ns i) }
  leg_at_place i l =
      ap (λ gs. get_or gs i no_leg) (all_legs fs sectors ps ns held)
      ∙ get_or-map-in (λ (e : End). record { arrow = arrow_of e.inward; sectors = sectors e.label }) (word ns) i no_end no_leg l

  many : length (word_of (map (λ p. p.tensor) ps)) ≡ length (word ns)
  many = ap (λ (gs : List LegValue). length gs) (all_legs fs sectors ps ns held) ∙ length-legs sectors (word ns)

  pub coupling : IsCoupling (word_of (map (λ p. p.tensor) ps)) cs
  coupling = record {
    meet = λ k d l. meets (get_or cs k d) (within k d l) (same k d l);
    distinct = places_distinct (label_in ns) cs (labels bonds) labels_apart (λ k d l. (within k d l).2) first second;
  }
    where
      meets : (c : ℕ × ℕ) → (c.0 < length (word ns)) × (c.1 < length (word ns)) × (c.0 ≢ c.1) → label_in ns c.0 ≡ label_in ns c.1 → IsCouple (word_of (map (λ p. p.tensor) ps)) c
      meets c w e = record {
        first = subst (λ n. c.0 < n) (sym many) w.0;
        second = subst (λ n. c.1 < n) (sym many) w.1;
        meets = (
          (λ a. opposite c w e (same_arrow (at c.0).inward (at c.1).inward
              (ap (λ (g : LegValue). g.arrow) (sym (leg_at_place c.0 w.0)) ∙ a ∙ ap (λ (g : LegValue). g.arrow) (leg_at_place c.1 w.1)))),
          ap (λ (g : LegValue). g.sectors) (leg_at_place c.0 w.0) ∙ ap sectors e ∙ sym (ap (λ (g : LegValue). g.sectors) (leg_at_place c.1 w.1)),
        );
      }

-- the label of a place of the word, among all labels
pub label_among : (fs : List Factor) (sectors : ℤ → List SectorValue) (ps : List Placed) (ns : List Node) → AreNodesOf fs sectors ps ns → (i : ℕ) →
    get_or (flat_map (λ (p : Placed). p.labels) ps) i (pos 0) ≡ label_in ns i
label_among fs sectors ps ns held i = ap (λ ls. get_or ls i (pos 0)) (all_labels fs sectors ps ns held) ∙ get_or-map (λ (e : End). e.label) (word ns) i no_end
