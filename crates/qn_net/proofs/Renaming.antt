-- Tensors that are coupled by themselves, and the same tensors in their network: their labels, lines and open legs.
use Rattle.std.proofs.lemmas.Simd.{map-map}
use Rattle.std.proofs.Common.{◌≡◌, ◌≤◌, ◌<◌, ◌==◌, ℕ, zero, suc, ◌+◌, ℤ, Bool, true, false, List, [], ◌∷◌, refl, sym, ◌∙◌, ap, ap₂, subst, map, length, take, drop, get_or, ◌⊎◌, inl, inr, int_eq, zero-add, eqb-true, nat_lt, arith}
use Rattle.std.specs.List.{All, flat_map, range_with_len}
use Rattle.std.proofs.lemmas.Bool.Decides.{nat_tests}
use Rattle.std.proofs.lemmas.List.{take-map, drop-map}
use Rattle.std.proofs.Math.Seq.{take-append_seam, drop-append_seam}
use Rattle.qn_sign.specs.Positions.{positions}
use Rattle.qn_value.specs.Labels.{Placed, AreRenamed}
use Rattle.qn_value.specs.Names.{name_in, StandsOnly, Follows}
use Rattle.qn_value.specs.Local.{is_coupled, label_at, with_labels}
use Rattle.qn_value.proofs.Sums.{label_test}
use Rattle.qn_value.proofs.NamesLemmas.{names_map}
use Rattle.qn_value.proofs.CoupleLemmas.{couple_at, couple_passes, stands_in, one_couple, open_before, open_grows}
use Rattle.qn_value.proofs.CoupledLemmas.{coupled_label, open_label}
use Rattle.qn_value.proofs.CoupledLemmas.{pos_equal}
use Rattle.qn_value.proofs.CoupledLemmas.{negsuc_equal}
use Rattle.qn_value.proofs.CoupledLemmas.{pos_apart}

-- what stands in a list at its positions
pub map-positions : {E : Type 0} (xs : List E) (d : E) → xs ≡ map (λ i. get_or xs i d) (positions (length xs))
map-positions {E} xs d = sym (from xs (λ i. get_or xs i d) 0 (λ i h. ap (λ k. get_or xs k d) (zero-add i)))
  where
    from : (ys : List E) (f : ℕ → E) (a : ℕ) → ((i : ℕ) → i < length ys → f (a + i) ≡ get_or ys i d) → map f (range_with_len a (length ys)) ≡ ys
    from [] f a h = refl
    from (y ∷ ys) f a h =
        ap₂ (λ z zs. z ∷ zs) (ap f here ∙ h 0 (omega arith))
        (from ys f (a + 1) (λ i l. ap f (next i) ∙ h (suc i) (omega (arith, l))))
      where
        here : a ≡ a + 0
        here = omega arith

        next : (i : ℕ) → a + 1 + i ≡ a + suc i
        next i = omega arith

-- two lists over numbers, the second of which has equal elements wherever the first has
follows_range : (f g : ℕ → ℤ) (a n : ℕ) → ((i j : ℕ) → i < a + n → j < a + n → f i ≡ f j → g i ≡ g j) → Follows (map f (range_with_len a n)) (map g (range_with_len a n))
follows_range f g a zero h = tt
follows_range f g a (suc n) h =
    (only (a + 1) n (λ j l. h a j (omega arith) (omega (arith, l))), follows_range f g (a + 1) n (λ i j l m. h i j (omega (arith, l)) (omega (arith, m))))
  where
    only : (b m : ℕ) → ((j : ℕ) → j < b + m → f a ≡ f j → g a ≡ g j) → StandsOnly (f a) (g a) (map f (range_with_len b m)) (map g (range_with_len b m))
    only b zero k = tt
    only b (suc m) k = (
      (λ e. subst (λ x. int_eq (g a) x ≡ true) (k b (omega arith) (label_test.equal (f a) (f b) e)) (label_test.itself (g a))),
      only (b + 1) m (λ j l. k j (omega (arith, l))),
    )

-- the legs at the two places of each couple have one name
module _ (cs : List (ℕ × ℕ)) (g : ℕ → ℤ) (same : All (λ c. g c.0 ≡ g c.1) cs) where
  either : (c : ℕ × ℕ) (i : ℕ) → g c.0 ≡ g c.1 → (i ≡ c.0) ⊎ (i ≡ c.1) → g i ≡ g c.0
  either c i e (inl p) = ap g p
  either c i e (inr p) = ap g p ∙ sym e

  -- places with one label have one name
  one_name : (i j : ℕ) → label_at cs i ≡ label_at cs j → g i ≡ g j
  one_name i j e = go (is_coupled cs i) refl (is_coupled cs j) refl
    where
      go : (a : Bool) → is_coupled cs i ≡ a → (b : Bool) → is_coupled cs j ≡ b → g i ≡ g j
      go true p true q =
          let one : couple_at cs i ≡ couple_at cs j = one_couple 1 cs i j p q (pos_equal _ _ (sym (coupled_label cs i p) ∙ e ∙ coupled_label cs j q)) in
          either (couple_at cs i) i (couple_passes (λ c. g c.0 ≡ g c.1) cs i same p) (stands_in cs i p)
          ∙ sym (either (couple_at cs i) j (couple_passes (λ c. g c.0 ≡ g c.1) cs i same p) (subst (λ c. (j ≡ c.0) ⊎ (j ≡ c.1)) (sym one) (stands_in cs j q)))
      go true p false q = absurd (pos_apart _ _ (sym (coupled_label cs i p) ∙ e ∙ open_label cs j q))
      go false p true q = absurd (pos_apart _ _ (sym (coupled_label cs j q) ∙ sym e ∙ open_label cs i p))
      go false p false q =
          let s : open_before cs i ≡ open_before cs j = negsuc_equal _ _ (sym (open_label cs i p) ∙ e ∙ open_label cs j q) in
          order (nat_lt i j) refl (nat_lt j i) refl s
        where
          order : (t : Bool) → nat_lt i j ≡ t → (u : Bool) → nat_lt j i ≡ u → open_before cs i ≡ open_before cs j → g i ≡ g j
          order true f u k s = absurd (omega (arith, s, open_grows cs i j p (grind (arith, nat_tests))))
          order false f true k s = absurd (omega (arith, s, open_grows cs j i q (grind (arith, nat_tests))))
          order false f false k s = ap g (grind (arith, nat_tests))

  pub names_at : (n : ℕ) → map (name_in (map (label_at cs) (positions n)) (map g (positions n))) (map (label_at cs) (positions n)) ≡ map g (positions n)
  names_at n = names_map (map (label_at cs) (positions n)) (map g (positions n)) (follows_range (label_at cs) g 0 n (λ i j l m. one_name i j))

  -- one by one
  pub name_at : (n i : ℕ) → i < n → name_in (map (label_at cs) (positions n)) (map g (positions n)) (label_at cs i) ≡ g i
  name_at n i l = at 0 n (λ k. k) (pieces (names_at n)) i (omega arith) (omega (arith, l))
    where
      pieces : map (name_in (map (label_at cs) (positions n)) (map g (positions n))) (map (label_at cs) (positions n)) ≡ map g (positions n) →
          map (λ k. name_in (map (label_at cs) (positions n)) (map g (positions n)) (label_at cs k)) (positions n) ≡ map g (positions n)
      pieces e = sym (map-map (name_in (map (label_at cs) (positions n)) (map g (positions n))) (label_at cs) (positions n)) ∙ e

      at : (a m : ℕ) → (ℕ → ℕ) → map (λ k. name_in (map (label_at cs) (positions n)) (map g (positions n)) (label_at cs k)) (range_with_len a m) ≡ map g (range_with_len a m) →
          (j : ℕ) → a ≤ j → j < a + m → name_in (map (label_at cs) (positions n)) (map g (positions n)) (label_at cs j) ≡ g j
      at a zero f e j h k = absurd (omega (arith, h, k))
      at a (suc m) f e j h k = go (j == a) refl (first e) (at (a + 1) m f (rest e) j)
        where
          first : {A : Type 0} {x y : A} {xs ys : List A} → x ∷ xs ≡ y ∷ ys → x ≡ y
          first e = cc e

          rest : {A : Type 0} {x y : A} {xs ys : List A} → x ∷ xs ≡ y ∷ ys → xs ≡ ys
          rest e = cc e

          go : (b : Bool) → (j == a) ≡ b → name_in (map (label_at cs) (positions n)) (map g (positions n)) (label_at cs a) ≡ g a →
              (a + 1 ≤ j → j < a + 1 + m → name_in (map (label_at cs) (positions n)) (map g (positions n)) (label_at cs j) ≡ g j) →
              name_in (map (label_at cs) (positions n)) (map g (positions n)) (label_at cs j) ≡ g j
          go true q here ih = subst (λ i. name_in (map (label_at cs) (positions n)) (map g (positions n)) (label_at cs i) ≡ g i) (sym (eqb-true j a q)) here
          go false q here ih = ih (grind (arith, nat_tests)) (omega (arith, k))

-- the tensors with their labels, under other names
pub renamed_with : (f : ℤ → ℤ) (ps : List Placed) → All (λ p. length p.labels ≡ length p.tensor.legs) ps → (ls : List ℤ) → map f ls ≡ flat_map (λ p. p.labels) ps →
    AreRenamed f (with_labels (map (λ p. p.tensor) ps) ls) ps
renamed_with f [] h ls e = tt
renamed_with f (p ∷ ps) h ls e =
    let long : length p.labels ≡ length p.tensor.legs = h 0 p (omega arith) in (
      refl,
      sym (take-map f (length p.tensor.legs) ls) ∙ ap₂ take (sym long) e ∙ take-append_seam p.labels (flat_map (λ (q : Placed). q.labels) ps),
      renamed_with f ps (λ i d l. h (suc i) d (omega (arith, l))) (drop (length p.tensor.legs) ls)
          (sym (drop-map f (length p.tensor.legs) ls) ∙ ap₂ drop (sym long) e ∙ drop-append_seam p.labels (flat_map (λ (q : Placed). q.labels) ps)),
    )
