-- The stable sort of a term by site.
use Rattle.std.proofs.Common.{◌≡◌, ℕ, zero, suc, ◌<◌, Bool, true, false, ◌&&◌, ◌==◌, cond, List, [], ◌∷◌, refl, sym, ◌∙◌, ap, ap₂, arith}
use Rattle.std.specs.Prelude.{nat_lt}
use Rattle.std.proofs.lemmas.Bool.{false≢true, eqb-true}
use Rattle.std.proofs.lemmas.Bool.Decides.{nat_tests}
use mathlib.Core.Path.{fun_ext}
use Rattle.qn_sign.specs.Sign.{xor, is_odd}
use Rattle.qn_gauss.specs.Gaussian.{Gaussian, mul_g, signed}
use Rattle.qn_value.specs.Networks.{sum_below}
use Rattle.qn_sign.proofs.Parity.{xor_left}
use Rattle.qn_value.proofs.NetLaws.{signed-xor}
use Rattle.qn_opsum.specs.Strings.{Sites, HasParities, Factor, State, odd_before, product_below, odd_factor, string, matrix, odd_at, crossing, inversions, place, in_site_order, AreBelow, AreFrom, AreOrdered}
use Rattle.qn_opsum.proofs.StringLaws.{string_law, odd_below, inversions-cons}

-- order

from_earlier : (i j : ℕ) → nat_lt j i ≡ false → (fs : List Factor) → AreFrom j fs → AreFrom i fs
from_earlier i j h [] a = tt
from_earlier i j h (f ∷ fs) a = (step f.site a.0, from_earlier i j h fs a.1)
  where
    step : (k : ℕ) → nat_lt k j ≡ false → nat_lt k i ≡ false
    step k e = grind (arith, nat_tests)

lt_back : (i j : ℕ) → nat_lt i j ≡ true → nat_lt j i ≡ false
lt_back i j e = grind (arith, nat_tests)

from-place : (j : ℕ) (f : Factor) (gs : List Factor) → nat_lt f.site j ≡ false → AreFrom j gs → AreFrom j (place f gs)
from-place j f [] h a = (h, tt)
from-place j f (g ∷ gs) h a = go (nat_lt g.site f.site) (from-place j f gs h a.1)
  where
    go : (b : Bool) → AreFrom j (place f gs) → AreFrom j (cond b (g ∷ place f gs) (f ∷ g ∷ gs))
    go true ih = (a.0, ih)
    go false ih = (h, a)

ordered-place : (f : Factor) (gs : List Factor) → AreOrdered gs → AreOrdered (place f gs)
ordered-place f [] o = (tt, tt)
ordered-place f (g ∷ gs) o = go (nat_lt g.site f.site) refl (ordered-place f gs o.1)
  where
    go : (b : Bool) → nat_lt g.site f.site ≡ b → AreOrdered (place f gs) → AreOrdered (cond b (g ∷ place f gs) (f ∷ g ∷ gs))
    go true e ih = (from-place g.site f gs (lt_back g.site f.site e) o.0, ih)
    go false e ih = ((e, from_earlier f.site g.site e gs o.0), o)

pub ordered-sort : (fs : List Factor) → AreOrdered (in_site_order fs)
ordered-sort [] = tt
ordered-sort (f ∷ fs) = ordered-place f (in_site_order fs) (ordered-sort fs)

below-place : (n : ℕ) (f : Factor) (gs : List Factor) → f.site < n → AreBelow n gs → AreBelow n (place f gs)
below-place n f [] h b = (h, tt)
below-place n f (g ∷ gs) h b = go (nat_lt g.site f.site) (below-place n f gs h b.1)
  where
    go : (c : Bool) → AreBelow n (place f gs) → AreBelow n (cond c (g ∷ place f gs) (f ∷ g ∷ gs))
    go true ih = (b.0, ih)
    go false ih = (h, b)

pub below-sort : (n : ℕ) (fs : List Factor) → AreBelow n fs → AreBelow n (in_site_order fs)
below-sort n [] b = tt
below-sort n (f ∷ fs) b = below-place n f (in_site_order fs) b.0 (below-sort n fs b.1)

module _ (S : Sites) where
  -- a term in order has no inversions

  none_below : (j : ℕ) (fs : List Factor) → AreFrom j fs → odd_below S fs j ≡ false
  none_below j [] a = refl
  none_below j (f ∷ fs) a = ap₂ (λ b r. xor (odd_factor S f && b) r) a.0 (none_below j fs a.1) ∙ none (odd_factor S f)
    where
      none : (o : Bool) → xor (o && false) false ≡ false
      none o = grind arith

  pub no_inversions : (fs : List Factor) → AreOrdered fs → is_odd (inversions S fs) ≡ false
  no_inversions [] o = refl
  no_inversions (f ∷ fs) o =
      inversions-cons S f fs
      ∙ ap₂ (λ b r. xor (odd_factor S f && b) r) (none_below f.site fs o.0) (no_inversions fs o.1)
      ∙ none (odd_factor S f)
    where
      none : (o : Bool) → xor (o && false) false ≡ false
      none o = grind arith

  -- the sort keeps the operators of each site in order

  matrix-swap : (f g : Factor) (gs : List Factor) (k x y : ℕ) → nat_lt g.site f.site ≡ true → matrix S (g ∷ f ∷ gs) k x y ≡ matrix S (f ∷ g ∷ gs) k x y
  matrix-swap f g gs k x y h = go (f.site == k) refl (g.site == k) refl
    where
      clash : (i j k : ℕ) → nat_lt i j ≡ true → j ≡ k → i ≡ k → false ≡ true
      clash i j k h e g = grind (arith, nat_tests)

      pass : Factor → (ℕ → Gaussian) → Gaussian
      pass f m = sum_below (S.dim k) (λ v. mul_g (S.table k f.op x v) (m v))

      go : (p : Bool) → (f.site == k) ≡ p → (q : Bool) → (g.site == k) ≡ q → matrix S (g ∷ f ∷ gs) k x y ≡ matrix S (f ∷ g ∷ gs) k x y
      go true e true i = absurd (false≢true (clash g.site f.site k h (eqb-true f.site k e) (eqb-true g.site k i)))
      go p e false i = rw i refl
      go false e q i = rw e refl

  matrix-place : (f : Factor) (gs : List Factor) (k x y : ℕ) → matrix S (place f gs) k x y ≡ matrix S (f ∷ gs) k x y
  matrix-place f [] k x y = refl
  matrix-place f (g ∷ gs) k x y = go (nat_lt g.site f.site) refl (λ v. matrix-place f gs k v y)
    where
      go : (b : Bool) → nat_lt g.site f.site ≡ b → ((v : ℕ) → matrix S (place f gs) k v y ≡ matrix S (f ∷ gs) k v y) →
          matrix S (cond b (g ∷ place f gs) (f ∷ g ∷ gs)) k x y ≡ matrix S (f ∷ g ∷ gs) k x y
      go true e ih =
          ap (λ (m : ℕ → Gaussian). cond (g.site == k) (sum_below (S.dim k) (λ v. mul_g (S.table k g.op x v) (m v))) (m x)) (fun_ext ih)
          ∙ matrix-swap f g gs k x y e
      go false e ih = refl

  pub matrix-sort : (fs : List Factor) (k x y : ℕ) → matrix S (in_site_order fs) k x y ≡ matrix S fs k x y
  matrix-sort [] k x y = refl
  matrix-sort (f ∷ fs) k x y =
      matrix-place f (in_site_order fs) k x y
      ∙ ap (λ (m : ℕ → Gaussian). cond (f.site == k) (sum_below (S.dim k) (λ v. mul_g (S.table k f.op x v) (m v))) (m x)) (fun_ext (λ v. matrix-sort fs k v y))

  odd_at-place : (f : Factor) (gs : List Factor) (k : ℕ) → odd_at S (place f gs) k ≡ odd_at S (f ∷ gs) k
  odd_at-place f [] k = refl
  odd_at-place f (g ∷ gs) k = go (nat_lt g.site f.site) (odd_at-place f gs k)
    where
      go : (b : Bool) → odd_at S (place f gs) k ≡ odd_at S (f ∷ gs) k → odd_at S (cond b (g ∷ place f gs) (f ∷ g ∷ gs)) k ≡ odd_at S (f ∷ g ∷ gs) k
      go true ih = ap (xor (g.site == k && odd_factor S g)) ih ∙ xor_left (g.site == k && odd_factor S g) (f.site == k && odd_factor S f) (odd_at S gs k)
      go false ih = refl

  pub odd_at-sort : (fs : List Factor) (k : ℕ) → odd_at S (in_site_order fs) k ≡ odd_at S fs k
  odd_at-sort [] k = refl
  odd_at-sort (f ∷ fs) k = odd_at-place f (in_site_order fs) k ∙ ap (xor (f.site == k && odd_factor S f)) (odd_at-sort fs k)

  crossing-sort : (fs : List Factor) (s : State) (n : ℕ) → crossing S (in_site_order fs) s n ≡ crossing S fs s n
  crossing-sort fs s zero = refl
  crossing-sort fs s (suc n) = ap₂ (λ c o. xor c (o && odd_before S n s)) (crossing-sort fs s n) (odd_at-sort fs n)

  module _ (parities : HasParities S) where
    pub ordered_law : (fs : List Factor) → AreBelow S.count fs → AreOrdered fs → (t s : State) →
        string S fs t s ≡ signed (crossing S fs s S.count) (product_below S.count (λ k. matrix S fs k (t k) (s k)))
    ordered_law fs b o t s =
        string_law S parities fs b t s
        ∙ ap (λ c. signed c (product_below S.count (λ k. matrix S fs k (t k) (s k))))
        (ap (xor (crossing S fs s S.count)) (no_inversions fs o) ∙ even (crossing S fs s S.count))
      where
        even : (c : Bool) → xor c false ≡ c
        even c = grind arith

    pub normal_law : (fs : List Factor) → AreBelow S.count fs → (t s : State) →
        string S fs t s ≡ signed (is_odd (inversions S fs)) (string S (in_site_order fs) t s)
    normal_law fs b t s =
        string_law S parities fs b t s
        ∙ ap (λ c. signed c (product_below S.count (λ k. matrix S fs k (t k) (s k)))) (turn (crossing S fs s S.count) (is_odd (inversions S fs)))
        ∙ signed-xor (is_odd (inversions S fs)) (crossing S fs s S.count) (product_below S.count (λ k. matrix S fs k (t k) (s k)))
        ∙ ap (signed (is_odd (inversions S fs)))
        (sym (ordered_law (in_site_order fs) (below-sort S.count fs b) (ordered-sort fs) t s
        ∙ ap₂ signed (crossing-sort fs s S.count) (ap (product_below S.count) (fun_ext (λ k. matrix-sort fs k (t k) (s k))))))
      where
        turn : (a b : Bool) → xor a b ≡ xor b a
        turn a b = grind arith
