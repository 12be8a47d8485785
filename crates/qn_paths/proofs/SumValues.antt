-- The automaton of an operator sum is one of its terms, and its value is that of the sum.
use Rattle.std.proofs.Common.{◌≡◌, ℕ, zero, suc, ◌+◌, ◌<◌, ◌==◌, ℤ, Bool, true, false, cond, List, [], ◌∷◌, ◌++◌, map, length, refl, sym, ◌∙◌, ap, ap₂, subst, arith}
use Rattle.std.proofs.lemmas.Bool.Decides.{nat_tests}
use Rattle.std.proofs.lemmas.List.{length-map}
use Rattle.std.proofs.lemmas.List.Elements.{All-get_or}
use Rattle.std.proofs.lemmas.Simd.{map-map}
use Rattle.qn_gauss.specs.Gaussian.{add_g, mul_g}
use Rattle.qn_index.specs.Legs.{SectorValue, LegValue, flipped, total}
use Rattle.qn_index.specs.Places.{IsValues}
use Rattle.qn_value.specs.Rows.{sum_over}
use Rattle.qn_value.specs.Tensors.{TensorValue}
use Rattle.qn_block.specs.Blocked.{BlockedValue, tensor_of}
use Rattle.qn_sites.specs.Sites.{SiteValue, IsSite}
use Rattle.qn_opsum.specs.Refusals.{IsSum, IsGood}
use Rattle.qn_opsum.specs.Strings.{Sites, State, string}
use Rattle.qn_opsum.specs.Sums.{SumValue, TermValue, term_at, site_at, no_site, value_of}
use Rattle.qn_opsum.proofs.Lookups.{has_parities}
use Rattle.qn_opsum.proofs.SiteOrder.{good_below}
use Rattle.qn_auto.specs.Automaton.{Term, stages, normal, site_entry, AllBelow, sum_of}
use Rattle.qn_auto.specs.LinkOrder.{add_value, sectors_of}
use Rattle.qn_auto.specs.SumAutomaton.{sites_in, term_in, terms_in, state_charge, state_lower, charge_lower, states, link_leg, left_legs, tensor_at, HasShapeAt, IsAutomatonOf}
use Rattle.qn_braket.proofs.PlacedChains.{site_leg, AreChained, IsOperator, element_of}
use Rattle.qn_paths.specs.Paths.{state_of}
use Rattle.qn_paths.proofs.AutomatonValues.{AreSiteValues, IsAutomaton, automaton_values}

-- a link has a value for each charge that is listed

total-add : (lower : List ℤ → List ℤ → Bool) (q : List ℤ) (ss : List SectorValue) → total (add_value lower q ss) ≡ suc (total ss)
total-add lower q [] = refl
total-add lower q (s ∷ ss) = go (lower q s.charge)
  where
    go : (b : Bool) → total (cond b (record { charge = q; dim = 1 } ∷ s ∷ ss) (record { charge = s.charge; dim = suc s.dim } ∷ ss)) ≡ suc (total (s ∷ ss))
    go true = first (s.dim + total ss)
      where
        first : (n : ℕ) → 1 + n ≡ suc n
        first n = omega arith
    go false = one_more s.dim (total ss)
      where
        one_more : (d n : ℕ) → suc d + n ≡ suc (d + n)
        one_more d n = omega arith

total_is : (lower : List ℤ → List ℤ → Bool) (qs : List (List ℤ)) → total (sectors_of lower qs) ≡ length qs
total_is lower [] = refl
total_is lower (q ∷ qs) = total-add lower q (sectors_of lower qs) ∙ ap suc (total_is lower qs)

-- the terms as numbers

all_below : (ss : List SiteValue) (ws : List TermValue) → ((j : ℕ) → j < length ws → IsGood ss (term_at ws j).factors) → AllBelow (length ss) (map (term_in ss) ws)
all_below ss [] h = tt
all_below ss (w ∷ ws) h = (good_below ss w.factors (h 0 (omega arith)), all_below ss ws (λ j b. h (suc j) (omega (arith, b))))

sum_is : (S : Sites) (ss : List SiteValue) (ws : List TermValue) (t s : State) →
    sum_of S (map (term_in ss) ws) t s ≡ sum_over ws (λ w. mul_g w.coef (string S (term_in ss w).factors t s))
sum_is S ss [] t s = refl
sum_is S ss (w ∷ ws) t s = ap (add_g (mul_g w.coef (string S (term_in ss w).factors t s))) (sum_is S ss ws t s)

module _ (v : SumValue) (ts : List BlockedValue) (m : ℕ) (is : IsSum v) (some : length v.sites ≡ suc m) (auto : IsAutomatonOf v ts) where
  abbrev pub sites : ℕ → List SectorValue
  sites j = (site_at v.sites j).leg.sectors

  abbrev pub right : ℕ → LegValue
  right j = link_leg v j

  abbrev pub tensors : ℕ → TensorValue
  tensors j = tensor_of (tensor_at ts j)

  abbrev terms : List Term
  terms = map (term_in v.sites) v.terms

  inside : (j k : ℕ) → j + k ≡ m → j < length v.sites
  inside j k q = subst (λ n. j < n) (sym some) (small j k m q)
    where
      small : (j k m : ℕ) → j + k ≡ m → j < suc m
      small j k m q = omega (arith, q)

  -- the legs of a site

  outward : (j : ℕ) → j < length v.sites → (site_at v.sites j).leg ≡ site_leg sites j
  outward j b =
      ap (λ a. record { arrow = a; sectors = sites j }) (All-get_or (λ (s : SiteValue). IsSite s) v.sites j no_site b is.sites.sites).leg.out

  shape_at : (j : ℕ) → j < length v.sites → HasShapeAt v j (tensor_at ts j)
  shape_at j b = (auto.tensors j b).shape

  last_legs : (j : ℕ) → j ≡ m → (tensors j).legs ≡ left_legs v j ++ (site_leg sites j ∷ flipped (site_leg sites j) ∷ [])
  last_legs j q =
      (shape_at j (inside j 0 (none j m q))).legs
      ∙ ap₂ (λ l b. left_legs v j ++ (l ∷ flipped l ∷ cond b [] (link_leg v j ∷ []))) (outward j (inside j 0 (none j m q))) (ap (λ n. suc j == n) some ∙ last j m q)
    where
      none : (j m : ℕ) → j ≡ m → j + 0 ≡ m
      none j m q = omega (arith, q)

      last : (j m : ℕ) → j ≡ m → (suc j == suc m) ≡ true
      last j m q = grind (arith, nat_tests)

  inner_legs : (j k : ℕ) → j + suc k ≡ m → (tensors j).legs ≡ left_legs v j ++ ((site_leg sites j ∷ flipped (site_leg sites j) ∷ []) ++ right j ∷ [])
  inner_legs j k q =
      (shape_at j (inside j (suc k) q)).legs
      ∙ ap₂ (λ l b. left_legs v j ++ (l ∷ flipped l ∷ cond b [] (link_leg v j ∷ []))) (outward j (inside j (suc k) q)) (ap (λ n. suc j == n) some ∙ inner j k m q)
    where
      inner : (j k m : ℕ) → j + suc k ≡ m → (suc j == suc m) ≡ false
      inner j k m q = grind (arith, nat_tests)

  chained : (k j : ℕ) → j + k ≡ m → AreChained (λ i. site_leg sites i ∷ flipped (site_leg sites i) ∷ []) right tensors (left_legs v j) j k
  chained zero j q = last_legs j (same j m q)
    where
      same : (j m : ℕ) → j + 0 ≡ m → j ≡ m
      same j m q = omega (arith, q)
  chained (suc k) j q = (inner_legs j k q, chained k (suc j) (move j k m q))
    where
      move : (j k m : ℕ) → j + suc k ≡ m → suc j + k ≡ m
      move j k m q = omega (arith, q)

  pub is_operator : IsOperator sites right tensors m
  is_operator = chained m 0 (from_zero m)
    where
      from_zero : (m : ℕ) → 0 + m ≡ m
      from_zero m = omega arith

  within : (j : ℕ) → j < suc m → j < length v.sites
  within j b = subst (λ n. j < n) (sym some) b

  terms_are : terms_in v ≡ map (normal (sites_in v)) terms
  terms_are = sym (map-map (normal (sites_in v)) (term_in v.sites) v.terms)

  is_automaton : IsAutomaton v.group (state_lower v) (sites_in v) (map (normal (sites_in v)) terms) sites right tensors m
  is_automaton = record {
    chain = is_operator;
    values = λ j i b. refl;
    links = λ j b. (
      refl,
      total_is charge_lower (map (state_charge v) (states v j)) ∙ length-map (states v j) (state_charge v)
          ∙ ap (λ ws. length (stages (state_lower v) ws j)) terms_are,
    );
    entries = λ j b xs h.
        (auto.tensors j (within j b)).entries xs (subst (λ ls. IsValues ls xs) (shape_at j (within j b)).legs h)
        ∙ ap (λ ws. site_entry (state_lower v) (sites_in v) ws j xs) terms_are;
  }

  pub sum_values : (u s : List ℕ) → length u ≡ suc m → length s ≡ suc m → AreSiteValues (λ j. total (sites j)) 0 u → AreSiteValues (λ j. total (sites j)) 0 s →
      element_of v.group tensors m u s ≡ value_of v (state_of u) (state_of s)
  sum_values u s lu ls wu ws =
      automaton_values v.group (state_lower v) (sites_in v) terms sites right tensors m (has_parities v.group v.sites is.sites) some
      (all_below v.sites v.terms is.good) is_automaton u s lu ls wu ws
      ∙ sum_is (sites_in v) v.sites v.terms (state_of u) (state_of s)
