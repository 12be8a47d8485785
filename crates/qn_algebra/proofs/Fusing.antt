-- The values of a fused leg stand for the pairs of values of two legs, each pair once.
use Rattle.std.proofs.Common.{◌≡◌, ◌<◌, ◌==◌, ℕ, zero, suc, Bool, true, false, ◌&&◌, List, [], ◌∷◌, length, get_or, refl, sym, ◌∙◌, ap, subst, arith}
use mathlib.Core.Path.{fun_ext}
use Rattle.std.proofs.lemmas.Bool.Decides.{nat_tests}
use Rattle.qn_gauss.specs.Gaussian.{Gaussian}
use Rattle.qn_charge.specs.declared.factor.Factor.{Factor}
use Rattle.qn_charge.specs.Charges.{IsGroup}
use Rattle.qn_index.specs.declared.leg.Dir.TheVariants.{Out}
use Rattle.qn_index.specs.Legs.{LegValue, total}
use Rattle.qn_index.specs.Places.{IsValues}
use Rattle.qn_value.specs.Networks.{sum_below}
use Rattle.qn_value.specs.Rows.{when}
use Rattle.qn_value.specs.Tensors.{same_values}
use Rattle.qn_value.proofs.Sums.{sum_below-swap, sum_below-zero}
use Rattle.qn_value.proofs.BlockSums.{sum_below-congr}
use Rattle.qn_value.proofs.RowsLemmas.{same_values-itself, sum_below-one}
use Rattle.qn_block.specs.Combiners.{stands_at, fused_sectors, fused_values}
use Rattle.qn_block.proofs.Matching.{stands_same}
use Rattle.qn_block.proofs.Located.{matched, match_one, match_some, stands_below, values_total}
use Rattle.qn_links.specs.Joins.{ArePairs}

pub stands_nth : (uss : List (List ℕ)) (w : ℕ) → w < length uss → stands_at uss w (get_or uss w []) ≡ true
stands_nth [] w h = absurd (omega (arith, h))
stands_nth (us ∷ uss) zero h = same_values-itself us
stands_nth (us ∷ uss) (suc w) h = stands_nth uss w (omega (arith, h))

same_number : (v k : ℕ) → (v == k) ≡ true → v ≡ k
same_number v k e = grind (arith, nat_tests)

-- one summand is picked
picked : (n k : ℕ) (g : ℕ → Gaussian) → k < n → sum_below n (λ v. when (v == k) (g v)) ≡ g k
picked n k g h = ap (sum_below n) (fun_ext (λ v. at v (v == k) refl)) ∙ sum_below-one n k (g k) h
  where
    at : (v : ℕ) (b : Bool) → (v == k) ≡ b → when b (g v) ≡ when b (g k)
    at v true e = ap g (same_number v k e)
    at v false e = refl

module _ (fs : List Factor) (g : IsGroup fs) (first second : LegValue) where
  abbrev legs : List LegValue
  legs = first ∷ second ∷ []

  abbrev all : List (List ℕ)
  all = fused_values fs legs Out

  abbrev n : ℕ
  n = total (fused_sectors fs legs Out)

  abbrev first_at : ℕ → ℕ
  first_at w = get_or (get_or all w []) 0 0

  abbrev second_at : ℕ → ℕ
  second_at w = get_or (get_or all w []) 1 0

  pub record IsPairAt (w : ℕ) : Type 0 where
    pub first_below : first_at w < total first.sectors
    pub second_below : second_at w < total second.sectors
    pub pair : get_or all w [] ≡ first_at w ∷ second_at w ∷ []

  pub pair_at : (w : ℕ) → w < n → IsPairAt w
  pair_at w h = go (get_or all w []) refl (matched fs legs Out w (get_or all w []) g (stands_nth all w (subst (λ k. w < k) (sym (values_total fs legs Out)) h))).values
    where
      go : (vs : List ℕ) → get_or all w [] ≡ vs → IsValues legs vs → IsPairAt w
      go [] e v = absurd v
      go (x ∷ []) e v = absurd v.1
      go (x ∷ y ∷ zs) e v = record {
        first_below = subst (λ us. get_or us 0 0 < total first.sectors) (sym e) v.0;
        second_below = subst (λ us. get_or us 1 0 < total second.sectors) (sym e) v.1.0;
        pair = e ∙ ap (λ us. x ∷ y ∷ us) v.1.1 ∙ sym (ap (λ us. get_or us 0 0 ∷ get_or us 1 0 ∷ []) e);
      }

  abbrev hit : ℕ → ℕ → ℕ → Bool
  hit w v u = stands_at all w (v ∷ u ∷ [])

  -- a value of the fused leg is hit by one pair
  hit_pair : (w v u : ℕ) → w < n → hit w v u ≡ ((v == first_at w) && ((u == second_at w) && true))
  hit_pair w v u h =
      stands_same all w (get_or all w []) (v ∷ u ∷ []) (stands_nth all w (subst (λ k. w < k) (sym (values_total fs legs Out)) h))
      ∙ ap (same_values (v ∷ u ∷ [])) (pair_at w h).pair

  -- a pair hits one value
  hit_once : (v u : ℕ) → v < total first.sectors → u < total second.sectors → (f : Gaussian) → sum_below n (λ w. when (hit w v u) f) ≡ f
  hit_once v u hv hu f =
      ap (sum_below n) (fun_ext (λ w. ap (λ b. when b f) (is w (hit w v u) refl (w == k) refl))) ∙ sum_below-one n k f (subst (λ l. k < l) (values_total fs legs Out) (stands_below all k (v ∷ u ∷ []) there))
    where
      some : (w : ℕ) × (stands_at all w (v ∷ u ∷ []) ≡ true)
      some = match_some fs legs Out (v ∷ u ∷ []) g (hv, (hu, refl))

      k : ℕ
      k = some.0

      there : hit k v u ≡ true
      there = some.1

      clash : (a b : ℕ) → a ≡ b → (a == b) ≡ false → true ≡ false
      clash a b e f = grind (arith, nat_tests)

      is : (w : ℕ) (b : Bool) → hit w v u ≡ b → (c : Bool) → (w == k) ≡ c → b ≡ c
      is w true e true q = refl
      is w true e false q = clash w k (match_one fs legs Out w k (v ∷ u ∷ []) g e there) q
      is w false e true q = sym e ∙ ap (λ i. hit i v u) (same_number w k q) ∙ there
      is w false e false q = refl

  pub are_pairs : ArePairs first_at second_at n (total first.sectors) (total second.sectors)
  are_pairs = record {
    first_below = λ w h. (pair_at w h).first_below;
    second_below = λ w h. (pair_at w h).second_below;
    sums = sums_are;
  }
    where
      d : ℕ
      d = total first.sectors

      e : ℕ
      e = total second.sectors

      split : (p q : Bool) (x : Gaussian) → when (p && (q && true)) x ≡ when p (when q x)
      split true true x = refl
      split true false x = refl
      split false q x = refl

      whens : (p : Bool) (k : ℕ) (h : ℕ → Gaussian) → sum_below k (λ u. when p (h u)) ≡ when p (sum_below k h)
      whens true k h = refl
      whens false k h = sum_below-zero k

      at_value : (f : ℕ → ℕ → Gaussian) (w : ℕ) → w < n → f (first_at w) (second_at w) ≡ sum_below d (λ v. sum_below e (λ u. when (hit w v u) (f v u)))
      at_value f w h = sym
          (ap (sum_below d) (fun_ext (λ v.
          ap (sum_below e) (fun_ext (λ u. ap (λ b. when b (f v u)) (hit_pair w v u h) ∙ split (v == first_at w) (u == second_at w) (f v u)))
          ∙ whens (v == first_at w) e (λ u. when (u == second_at w) (f v u))
          ∙ ap (when (v == first_at w)) (picked e (second_at w) (f v) (pair_at w h).second_below)))
          ∙ picked d (first_at w) (λ v. f v (second_at w)) (pair_at w h).first_below)

      sums_are : (f : ℕ → ℕ → Gaussian) → sum_below n (λ w. f (first_at w) (second_at w)) ≡ sum_below d (λ v. sum_below e (λ u. f v u))
      sums_are f =
          sum_below-congr n (λ w. f (first_at w) (second_at w)) (λ w. sum_below d (λ v. sum_below e (λ u. when (hit w v u) (f v u)))) (at_value f)
          ∙ sum_below-swap n d (λ w v. sum_below e (λ u. when (hit w v u) (f v u)))
          ∙ sum_below-congr d (λ v. sum_below n (λ w. sum_below e (λ u. when (hit w v u) (f v u)))) (λ v. sum_below e (λ u. f v u)) (λ v hv.
          sum_below-swap n e (λ w u. when (hit w v u) (f v u))
          ∙ sum_below-congr e (λ u. sum_below n (λ w. when (hit w v u) (f v u))) (λ u. f v u) (λ u hu. hit_once v u hv hu (f v u)))
