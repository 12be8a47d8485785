-- The table of a rule of one leg.
use Rattle.std.proofs.Common.{◌≡◌, ◌≤◌, ◌<◌, ℕ, zero, suc, ◌+◌, ◌==◌, Bool, true, false, ◌&&◌, cond, List, [], ◌∷◌, refl, sym, ◌∙◌, ap, ap₂, map, eqb-true, arith}
use Rattle.std.specs.List.{All, range_with_len}
use Rattle.std.proofs.lemmas.Bool.{ne_eqb, eqb-false}
use Rattle.qn_gauss.specs.Gaussian.{Gaussian, zero_g, signed}
use Rattle.qn_charge.specs.Charges.{IsGroup, zero_charge}
use Rattle.qn_charge.specs.Laws.{canonical_zero}
use Rattle.qn_index.specs.Legs.{IsLegOf, IsSound, flipped, total, parity_at}
use Rattle.qn_index.specs.Places.{IsValues}
use Rattle.qn_value.specs.Labels.{is_inward}
use Rattle.qn_value.specs.Tensors.{Row, IsRow, IsNew, AreDistinct, entry_at}
use Rattle.qn_value.proofs.BlockRows.{all-nil, all-cons}
use Rattle.qn_diagonal.proofs.Conserving.{net_of_pair}
use Rattle.qn_lazy.specs.LegRules.{LegRuleValue, legs_of, weight_of, entry_of_rule, rule_table}
use Rattle.qn_lazy.specs.Meaning.{HasTableLaw}
use Rattle.qn_lazy.proofs.Lawful.{both_charges}

beyond : (a v : ℕ) → a ≤ v → (a ≡ v → ⊥) → a + 1 ≤ v
beyond a v le other = grind (arith, le, other)

module _ (r : LegRuleValue) where
  abbrev row : ℕ → Row
  row v = record { values = v ∷ v ∷ []; entry = entry_of_rule r (v ∷ v ∷ []) }

  abbrev rows : ℕ → ℕ → List Row
  rows a n = map row (range_with_len a n)

  -- no row has a value below the first
  miss : (a n v w : ℕ) → v < a → entry_at (map row (range_with_len a n)) (v ∷ w ∷ []) ≡ zero_g
  miss a zero v w l = refl
  miss a (suc n) v w l =
      ap (λ b. cond (b && ((a == w) && true)) (entry_of_rule r (a ∷ a ∷ [])) (entry_at (rows (a + 1) n) (v ∷ w ∷ []))) (ne_eqb a v (λ e. absurd (omega (arith, e, l))))
      ∙ miss (a + 1) n v w (omega (arith, l))

  abbrev later : ℕ → ℕ → ℕ → ℕ → Gaussian
  later a n v w = entry_at (rows (a + 1) n) (v ∷ w ∷ [])

  hit : (a n v w : ℕ) → a ≤ v → v < a + n → entry_at (map row (range_with_len a n)) (v ∷ w ∷ []) ≡ entry_of_rule r (v ∷ w ∷ [])
  hit a zero v w le l = absurd (omega (arith, le, l))
  hit a (suc n) v w le l = go (a == v) refl (a == w) refl (λ more. hit (a + 1) n v w more (omega (arith, l)))
    where
      go : (b : Bool) → (a == v) ≡ b → (c : Bool) → (a == w) ≡ c → (a + 1 ≤ v → later a n v w ≡ entry_of_rule r (v ∷ w ∷ [])) →
          cond ((a == v) && ((a == w) && true)) (entry_of_rule r (a ∷ a ∷ [])) (later a n v w) ≡ entry_of_rule r (v ∷ w ∷ [])
      go false e c f ih =
          ap (λ b. cond (b && ((a == w) && true)) (entry_of_rule r (a ∷ a ∷ [])) (later a n v w)) e ∙ ih (beyond a v le (eqb-false a v e))
      go true e true f ih =
          ap₂ (λ b c. cond (b && (c && true)) (entry_of_rule r (a ∷ a ∷ [])) (later a n v w)) e f
          ∙ ap₂ (λ x y. entry_of_rule r (x ∷ y ∷ [])) (eqb-true a v e) (eqb-true a w f)
      go true e false f ih =
          ap₂ (λ b c. cond (b && (c && true)) (entry_of_rule r (a ∷ a ∷ [])) (later a n v w)) e f
          ∙ (miss (a + 1) n v w (omega (arith, eqb-true a v e))
          ∙ sym (ap (λ b. cond b (signed (is_inward r.leg.arrow && parity_at r.group r.leg.sectors v) (weight_of r.leg r.part v)) zero_g) (ap (λ x. x == w) (sym (eqb-true a v e)) ∙ f)))

  new : (u a n : ℕ) → u < a → IsNew (row u) (map row (range_with_len a n))
  new u a zero l = tt
  new u a (suc n) l = (ap (λ b. b && ((a == u) && true)) (ne_eqb a u (λ e. absurd (omega (arith, e, l)))), new u (a + 1) n (omega (arith, l)))

  distinct : (a n : ℕ) → AreDistinct (map row (range_with_len a n))
  distinct a zero = tt
  distinct a (suc n) = (new a (a + 1) n (omega arith), distinct (a + 1) n)

  conserve : (a n : ℕ) → IsGroup r.group → IsLegOf r.group r.leg → a + n ≤ total r.leg.sectors → All (IsRow r.group (legs_of r.leg) (zero_charge r.group)) (map row (range_with_len a n))
  conserve a zero g h l = all-nil (IsRow r.group (legs_of r.leg) (zero_charge r.group))
  conserve a (suc n) g h l =
      let lt : a < total r.leg.sectors = omega (arith, l) in
      all-cons (IsRow r.group (legs_of r.leg) (zero_charge r.group)) (row a) (rows (a + 1) n)
      (record { range = (lt, (lt, refl)); flux = net_of_pair r.group r.leg a g h lt })
      (conserve (a + 1) n g h (omega (arith, l)))

pub has_table_law : HasTableLaw
has_table_law r g s h = record {
  tensor = record {
    group = g;
    legs = all-cons IsSound r.leg (flipped r.leg ∷ []) s (all-cons IsSound (flipped r.leg) [] s (all-nil IsSound));
    charges = both_charges r h;
    flux = canonical_zero r.group g;
    rows = conserve r 0 (total r.leg.sectors) g h (omega arith);
    distinct = distinct r 0 (total r.leg.sectors);
  };
  group = refl;
  legs = refl;
  flux = refl;
  entries = entries;
}
  where
    entries : (xs : List ℕ) → IsValues (legs_of r.leg) xs → entry_at (rule_table r).rows xs ≡ entry_of_rule r xs
    entries [] v = absurd v
    entries (v ∷ []) i = absurd i.1
    entries (v ∷ w ∷ []) i = hit r 0 (total r.leg.sectors) v w (omega arith) (omega (arith, i.0))
    entries (v ∷ w ∷ x ∷ xs) i = absurd (cc i.1.1)
