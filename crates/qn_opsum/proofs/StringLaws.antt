-- The value of a term as a product over the sites.
use Rattle.std.proofs.Common.{◌≡◌, ℕ, zero, suc, ◌<◌, ◌≤◌, ◌⊎◌, inl, inr, Bool, true, false, ◌&&◌, ◌==◌, cond, List, [], ◌∷◌, refl, sym, ◌∙◌, ap, ap₂, count_by, arith}
use Rattle.std.specs.Prelude.{nat_lt}
use Rattle.std.proofs.lemmas.Bool.{false≢true, eqb-true}
use Rattle.std.proofs.lemmas.Bool.Decides.{nat_tests}
use mathlib.Core.Path.{fun_ext}
use Rattle.qn_sign.specs.Sign.{xor, is_odd}
use Rattle.qn_gauss.specs.Gaussian.{Gaussian, zero_g, one_g, mul_g, signed}
use Rattle.qn_value.specs.Networks.{sum_below}
use Rattle.qn_sign.proofs.Parity.{tally}
use Rattle.qn_gauss.proofs.Ring.{mul_comm, mul_assoc, mul_zero}
use Rattle.qn_value.proofs.Sums.{sum_below-scale, sum_below-zero}
use Rattle.qn_gauss.proofs.Signs.{mul-signed, signed-mul, signed-zero}
use Rattle.qn_sign.proofs.Parity.{is_odd-add, is_odd-count}
use Rattle.qn_value.proofs.NetLaws.{signed-xor}
use Rattle.qn_opsum.specs.Strings.{Sites, HasParities, Factor, State, put, odd_before, product_below, identity, odd_factor, string, matrix, odd_at, crossing, inversions, AreBelow}
use Rattle.qn_opsum.proofs.Products.{same_number, product-agree, product-split, product-zero, odd_before-put}
use Rattle.qn_value.proofs.BlockSums.{lt_true}

lt_suc : (j n : ℕ) → nat_lt j (suc n) ≡ xor (nat_lt j n) (j == n)
lt_suc j n = grind (arith, nat_tests)

lt_zero : (j : ℕ) → nat_lt j 0 ≡ false
lt_zero j = grind (arith, nat_tests)

lt_le : (j n : ℕ) → j < n → j ≤ n
lt_le j n h = omega arith

module _ (S : Sites) where
  -- the odd operators before site m
  abbrev pub odd_below : List Factor → ℕ → Bool
  odd_below fs m = tally (λ g. odd_factor S g && nat_lt g.site m) fs

  odd_below-zero : (fs : List Factor) → odd_below fs 0 ≡ false
  odd_below-zero [] = refl
  odd_below-zero (f ∷ fs) = ap₂ (λ b r. xor (odd_factor S f && b) r) (lt_zero f.site) (odd_below-zero fs) ∙ none (odd_factor S f)
    where
      none : (a : Bool) → xor (a && false) false ≡ false
      none a = grind arith

  odd_below-suc : (fs : List Factor) (m : ℕ) → odd_below fs (suc m) ≡ xor (odd_below fs m) (odd_at S fs m)
  odd_below-suc [] m = refl
  odd_below-suc (f ∷ fs) m =
      ap₂ (λ b r. xor (odd_factor S f && b) r) (lt_suc f.site m) (odd_below-suc fs m)
      ∙ step (odd_factor S f) (nat_lt f.site m) (f.site == m) (odd_below fs m) (odd_at S fs m)
    where
      step : (o l e r q : Bool) → xor (o && xor l e) (xor r q) ≡ xor (xor (o && l) r) (xor (e && o) q)
      step o l e r q = grind arith

  pub inversions-cons : (f : Factor) (fs : List Factor) →
      is_odd (inversions S (f ∷ fs)) ≡ xor (odd_factor S f && odd_below fs f.site) (is_odd (inversions S fs))
  inversions-cons f fs =
      is_odd-add (count_by (λ g. odd_factor S f && odd_factor S g && nat_lt g.site f.site) fs) (inversions S fs)
      ∙ ap (λ b. xor b (is_odd (inversions S fs))) (is_odd-count (λ g. odd_factor S f && odd_factor S g && nat_lt g.site f.site) fs ∙ factor_out fs)
    where
      step : (a b c r : Bool) → xor (a && b && c) (a && r) ≡ (a && xor (b && c) r)
      step a b c r = grind arith

      nothing : (a : Bool) → false ≡ (a && false)
      nothing a = grind arith

      factor_out : (gs : List Factor) → tally (λ g. odd_factor S f && odd_factor S g && nat_lt g.site f.site) gs ≡ (odd_factor S f && odd_below gs f.site)
      factor_out [] = nothing (odd_factor S f)
      factor_out (g ∷ gs) =
          ap (xor (odd_factor S f && odd_factor S g && nat_lt g.site f.site)) (factor_out gs)
          ∙ step (odd_factor S f) (odd_factor S g) (nat_lt g.site f.site) (odd_below gs f.site)

  crossing-nil : (s : State) (n : ℕ) → crossing S [] s n ≡ false
  crossing-nil s zero = refl
  crossing-nil s (suc n) = ap (λ b. xor b false) (crossing-nil s n)

  crossing-cons : (f : Factor) (fs : List Factor) (s : State) (n : ℕ) →
      crossing S (f ∷ fs) s n ≡ xor (nat_lt f.site n && (odd_factor S f && odd_before S f.site s)) (crossing S fs s n)
  crossing-cons f fs s zero = ap (λ b. xor (b && (odd_factor S f && odd_before S f.site s)) false) (sym (lt_zero f.site))
  crossing-cons f fs s (suc n) =
      ap (λ b. xor b (xor (f.site == n && odd_factor S f) (odd_at S fs n) && odd_before S n s)) (crossing-cons f fs s n)
      ∙ step (nat_lt f.site n) (f.site == n) (odd_factor S f) (odd_before S f.site s) (odd_before S n s) (crossing S fs s n) (odd_at S fs n) (here (f.site == n) refl)
      ∙ ap (λ b. xor (b && (odd_factor S f && odd_before S f.site s)) (xor (crossing S fs s n) (odd_at S fs n && odd_before S n s))) (sym (lt_suc f.site n))
    where
      here : (b : Bool) → (f.site == n) ≡ b → b ≡ true → odd_before S n s ≡ odd_before S f.site s
      here true e g = ap (λ k. odd_before S k s) (sym (eqb-true f.site n e))
      here false e g = absurd (false≢true g)

      step : (l e o u v c q : Bool) → (e ≡ true → v ≡ u) →
          xor (xor (l && (o && u)) c) (xor (e && o) q && v) ≡ xor (xor l e && (o && u)) (xor c (q && v))
      step l true o u v c q h = rw (h refl) (at_here l o u c q)
        where
          at_here : (l o u c q : Bool) → xor (xor (l && (o && u)) c) (xor o q && u) ≡ xor (xor l true && (o && u)) (xor c (q && u))
          at_here l o u c q = grind arith
      step l false o u v c q h = away l o u v c q
        where
          away : (l o u v c q : Bool) → xor (xor (l && (o && u)) c) (q && v) ≡ xor (xor l false && (o && u)) (xor c (q && v))
          away l o u v c q = grind arith

  module _ (parities : HasParities S) where
    -- a product of operators has the sum of their parities
    pub matrix_fits : (fs : List Factor) (k x y : ℕ) →
        (xor (S.odd_value k x) (S.odd_value k y) ≡ odd_at S fs k) ⊎ (matrix S fs k x y ≡ zero_g)
    matrix_fits [] k x y = go (x == y) refl
      where
        twice : (a : Bool) → xor a a ≡ false
        twice a = grind arith

        go : (b : Bool) → (x == y) ≡ b → (xor (S.odd_value k x) (S.odd_value k y) ≡ false) ⊎ (cond b one_g zero_g ≡ zero_g)
        go true e = inl (ap (λ z. xor (S.odd_value k x) (S.odd_value k z)) (sym (eqb-true x y e)) ∙ twice (S.odd_value k x))
        go false e = inr refl
    matrix_fits (f ∷ fs) k x y = go (f.site == k) refl (λ z. matrix_fits fs k z y)
      where
        total : Bool
        total = xor (xor (S.odd_value k x) (S.odd_value k y)) (xor (S.odd_op k f.op) (odd_at S fs k))

        sum_up : (a b c d : Bool) → xor (xor a b) (xor c d) ≡ false → xor a b ≡ xor c d
        sum_up a b c d e = grind arith

        clash : (a b v o r : Bool) → xor a v ≡ o → xor v b ≡ r → xor (xor a b) (xor o r) ≡ false
        clash a b v o r e g = grind arith

        each : (z : ℕ) → total ≡ true → (xor (S.odd_value k x) (S.odd_value k z) ≡ S.odd_op k f.op) ⊎ (S.table k f.op x z ≡ zero_g) →
            (xor (S.odd_value k z) (S.odd_value k y) ≡ odd_at S fs k) ⊎ (matrix S fs k z y ≡ zero_g) → mul_g (S.table k f.op x z) (matrix S fs k z y) ≡ zero_g
        each z w (inr e) _ = ap (λ u. mul_g u (matrix S fs k z y)) e ∙ mul_comm zero_g (matrix S fs k z y) ∙ mul_zero (matrix S fs k z y)
        each z w (inl e) (inr g) = ap (mul_g (S.table k f.op x z)) g ∙ mul_zero (S.table k f.op x z)
        each z w (inl e) (inl g) =
            absurd (false≢true (sym (clash (S.odd_value k x) (S.odd_value k y) (S.odd_value k z) (S.odd_op k f.op) (odd_at S fs k) e g) ∙ w))

        decide : (w : Bool) → total ≡ w → ((z : ℕ) → (xor (S.odd_value k z) (S.odd_value k y) ≡ odd_at S fs k) ⊎ (matrix S fs k z y ≡ zero_g)) →
            (xor (S.odd_value k x) (S.odd_value k y) ≡ xor (S.odd_op k f.op) (odd_at S fs k)) ⊎
            (sum_below (S.dim k) (λ v. mul_g (S.table k f.op x v) (matrix S fs k v y)) ≡ zero_g)
        decide false e ih = inl (sum_up (S.odd_value k x) (S.odd_value k y) (S.odd_op k f.op) (odd_at S fs k) e)
        decide true e ih = inr (ap (sum_below (S.dim k)) (fun_ext (λ z. each z e (parities k f.op x z) (ih z))) ∙ sum_below-zero (S.dim k))

        at_site : f.site ≡ k → (xor (S.odd_value k x) (S.odd_value k y) ≡ xor (S.odd_op k f.op) (odd_at S fs k)) ⊎
            (sum_below (S.dim k) (λ v. mul_g (S.table k f.op x v) (matrix S fs k v y)) ≡ zero_g) →
            (xor (S.odd_value k x) (S.odd_value k y) ≡ xor (odd_factor S f) (odd_at S fs k)) ⊎
            (sum_below (S.dim k) (λ v. mul_g (S.table k f.op x v) (matrix S fs k v y)) ≡ zero_g)
        at_site e (inl h) = inl (h ∙ ap (λ i. xor (S.odd_op i f.op) (odd_at S fs k)) (sym e))
        at_site e (inr h) = inr h

        go : (b : Bool) → (f.site == k) ≡ b → ((z : ℕ) → (xor (S.odd_value k z) (S.odd_value k y) ≡ odd_at S fs k) ⊎ (matrix S fs k z y ≡ zero_g)) →
            (xor (S.odd_value k x) (S.odd_value k y) ≡ xor (b && odd_factor S f) (odd_at S fs k)) ⊎
            (cond b (sum_below (S.dim k) (λ v. mul_g (S.table k f.op x v) (matrix S fs k v y))) (matrix S fs k x y) ≡ zero_g)
        go true e ih = at_site (eqb-true f.site k e) (decide total refl ih)
        go false e ih = ih x

    -- the parities of the sites before m, in the two states
    lower : (fs : List Factor) (t s : State) (m : ℕ) →
        (odd_before S m t ≡ xor (odd_before S m s) (odd_below fs m)) ⊎ (product_below m (λ k. matrix S fs k (t k) (s k)) ≡ zero_g)
    lower fs t s zero = inl (sym (odd_below-zero fs))
    lower fs t s (suc m) = go (lower fs t s m) (matrix_fits fs m (t m) (s m))
      where
        step : (a b c p q r : Bool) → a ≡ xor b c → xor p q ≡ r → xor a p ≡ xor (xor b q) (xor c r)
        step a b c p q r e f = grind arith

        go : (odd_before S m t ≡ xor (odd_before S m s) (odd_below fs m)) ⊎ (product_below m (λ k. matrix S fs k (t k) (s k)) ≡ zero_g) →
            (xor (S.odd_value m (t m)) (S.odd_value m (s m)) ≡ odd_at S fs m) ⊎ (matrix S fs m (t m) (s m) ≡ zero_g) →
            (xor (odd_before S m t) (S.odd_value m (t m)) ≡ xor (xor (odd_before S m s) (S.odd_value m (s m))) (odd_below fs (suc m))) ⊎
            (mul_g (product_below m (λ k. matrix S fs k (t k) (s k))) (matrix S fs m (t m) (s m)) ≡ zero_g)
        go (inr z) _ = inr (ap (λ u. mul_g u (matrix S fs m (t m) (s m))) z ∙ mul_comm zero_g (matrix S fs m (t m) (s m)) ∙ mul_zero (matrix S fs m (t m) (s m)))
        go (inl e) (inr z) = inr (ap (mul_g (product_below m (λ k. matrix S fs k (t k) (s k)))) z ∙ mul_zero (product_below m (λ k. matrix S fs k (t k) (s k))))
        go (inl e) (inl h) =
            inl (step _ _ _ _ _ _ e h ∙ ap (xor (xor (odd_before S m s) (S.odd_value m (s m)))) (sym (odd_below-suc fs m)))

    -- one more operator
    module _ (f : Factor) (fs : List Factor) (inside : f.site < S.count) (t s : State) (sigma : Bool)
        (ih : (v : ℕ) → string S fs (put t f.site v) s ≡ signed sigma (product_below S.count (λ k. matrix S fs k (put t f.site v k) (s k)))) where
      abbrev others : Gaussian
      others = product_below S.count (λ k. cond (k == f.site) one_g (matrix S fs k (t k) (s k)))

      -- the sites other than the operator's do not change
      others_are : (v : ℕ) → product_below S.count (λ k. matrix S fs k (put t f.site v k) (s k)) ≡ mul_g (matrix S fs f.site v (s f.site)) others
      others_are v =
          product-split S.count f.site (λ k. matrix S fs k (put t f.site v k) (s k)) inside
          ∙ ap₂ mul_g (ap (λ b. matrix S fs f.site (cond b v (t f.site)) (s f.site)) (same_number f.site))
          (ap (product_below S.count) (fun_ext (λ k. at k (k == f.site))))
        where
          at : (k : ℕ) (b : Bool) → cond b one_g (matrix S fs k (cond b v (t k)) (s k)) ≡ cond b one_g (matrix S fs k (t k) (s k))
          at k true = refl
          at k false = refl

      full_is : product_below S.count (λ k. matrix S (f ∷ fs) k (t k) (s k)) ≡
          mul_g others (sum_below (S.dim f.site) (λ v. mul_g (S.table f.site f.op (t f.site) v) (matrix S fs f.site v (s f.site))))
      full_is =
          product-split S.count f.site (λ k. matrix S (f ∷ fs) k (t k) (s k)) inside
          ∙ ap₂ mul_g
          (ap (λ b. cond b (sum_below (S.dim f.site) (λ v. mul_g (S.table f.site f.op (t f.site) v) (matrix S fs f.site v (s f.site)))) (matrix S fs f.site (t f.site) (s f.site)))
          (same_number f.site))
          (ap (product_below S.count) (fun_ext (λ k. at k (k == f.site) refl)))
          ∙ mul_comm (sum_below (S.dim f.site) (λ v. mul_g (S.table f.site f.op (t f.site) v) (matrix S fs f.site v (s f.site)))) others
        where
          differs : (k : ℕ) → (k == f.site) ≡ false → (f.site == k) ≡ false
          differs k e = flip_it k f.site e
            where
              flip_it : (k j : ℕ) → (k == j) ≡ false → (j == k) ≡ false
              flip_it k j e = grind (arith, nat_tests)

          at : (k : ℕ) (b : Bool) → (k == f.site) ≡ b → cond b one_g (matrix S (f ∷ fs) k (t k) (s k)) ≡ cond b one_g (matrix S fs k (t k) (s k))
          at k true e = refl
          at k false e = ap (λ c. cond c (sum_below (S.dim k) (λ v. mul_g (S.table k f.op (t k) v) (matrix S fs k v (s k)))) (matrix S fs k (t k) (s k))) (differs k e)

      abbrev begun : Bool
      begun = odd_factor S f && odd_before S f.site t

      term : (v : ℕ) →
          signed (odd_factor S f && odd_before S f.site (put t f.site v)) (mul_g (S.table f.site f.op (t f.site) v) (string S fs (put t f.site v) s)) ≡
          signed (xor begun sigma) (mul_g others (mul_g (S.table f.site f.op (t f.site) v) (matrix S fs f.site v (s f.site))))
      term v =
          ap₂ (λ b x. signed (odd_factor S f && b) (mul_g (S.table f.site f.op (t f.site) v) x))
          (odd_before-put S f.site f.site v t (itself f.site)) (ih v ∙ ap (signed sigma) (others_are v))
          ∙ ap (signed begun)
          (mul-signed sigma (S.table f.site f.op (t f.site) v) (mul_g (matrix S fs f.site v (s f.site)) others)
          ∙ ap (signed sigma)
          (sym (mul_assoc (S.table f.site f.op (t f.site) v) (matrix S fs f.site v (s f.site)) others)
          ∙ mul_comm (mul_g (S.table f.site f.op (t f.site) v) (matrix S fs f.site v (s f.site))) others))
          ∙ sym (signed-xor begun sigma (mul_g others (mul_g (S.table f.site f.op (t f.site) v) (matrix S fs f.site v (s f.site)))))
        where
          itself : (j : ℕ) → j ≤ j
          itself j = omega arith

      signed_sum : (b : Bool) (p : Gaussian) (n : ℕ) (g : ℕ → Gaussian) → sum_below n (λ v. signed b (mul_g p (g v))) ≡ signed b (mul_g p (sum_below n g))
      signed_sum b p n g =
          ap (sum_below n) (fun_ext (λ v. sym (signed-mul b p (g v))))
          ∙ sum_below-scale n (signed b p) g
          ∙ signed-mul b p (sum_below n g)

      string_one : string S (f ∷ fs) t s ≡ signed (xor begun sigma) (product_below S.count (λ k. matrix S (f ∷ fs) k (t k) (s k)))
      string_one =
          ap (sum_below (S.dim f.site)) (fun_ext term)
          ∙ signed_sum (xor begun sigma) others (S.dim f.site) (λ v. mul_g (S.table f.site f.op (t f.site) v) (matrix S fs f.site v (s f.site)))
          ∙ ap (signed (xor begun sigma)) (sym full_is)

      -- below the operator's site the term has the matrices of the rest
      lower_same : product_below f.site (λ k. matrix S (f ∷ fs) k (t k) (s k)) ≡ product_below f.site (λ k. matrix S fs k (t k) (s k))
      lower_same =
          product-agree f.site (λ k. matrix S (f ∷ fs) k (t k) (s k)) (λ k. matrix S fs k (t k) (s k))
          (λ k b. ap (λ c. cond c (sum_below (S.dim k) (λ v. mul_g (S.table k f.op (t k) v) (matrix S fs k v (s k)))) (matrix S fs k (t k) (s k))) (differs k f.site b))
        where
          differs : (k j : ℕ) → k < j → (j == k) ≡ false
          differs k j b = grind (arith, nat_tests)

      pub string_step : sigma ≡ xor (crossing S fs s S.count) (is_odd (inversions S fs)) →
          string S (f ∷ fs) t s ≡
          signed (xor (crossing S (f ∷ fs) s S.count) (is_odd (inversions S (f ∷ fs)))) (product_below S.count (λ k. matrix S (f ∷ fs) k (t k) (s k)))
      string_step e = string_one ∙ go (lower fs t s f.site)
        where
          regroup : (o a b c u v : Bool) → a ≡ xor b c → xor (o && a) (xor u v) ≡ xor (xor (true && (o && b)) u) (xor (o && c) v)
          regroup o a b c u v h = grind arith

          go : (odd_before S f.site t ≡ xor (odd_before S f.site s) (odd_below fs f.site)) ⊎ (product_below f.site (λ k. matrix S fs k (t k) (s k)) ≡ zero_g) →
              signed (xor begun sigma) (product_below S.count (λ k. matrix S (f ∷ fs) k (t k) (s k))) ≡
              signed (xor (crossing S (f ∷ fs) s S.count) (is_odd (inversions S (f ∷ fs)))) (product_below S.count (λ k. matrix S (f ∷ fs) k (t k) (s k)))
          go (inl h) =
              ap (λ b. signed b (product_below S.count (λ k. matrix S (f ∷ fs) k (t k) (s k))))
              (ap (xor begun) e
              ∙ regroup (odd_factor S f) (odd_before S f.site t) (odd_before S f.site s) (odd_below fs f.site) (crossing S fs s S.count) (is_odd (inversions S fs)) h
              ∙ ap₂ (λ l r. xor (xor (l && (odd_factor S f && odd_before S f.site s)) (crossing S fs s S.count)) r)
              (sym (lt_true f.site S.count inside)) (sym (inversions-cons f fs))
              ∙ ap (λ b. xor b (is_odd (inversions S (f ∷ fs)))) (sym (crossing-cons f fs s S.count)))
          go (inr z) =
              let none : product_below S.count (λ k. matrix S (f ∷ fs) k (t k) (s k)) ≡ zero_g =
              product-zero S.count f.site (λ k. matrix S (f ∷ fs) k (t k) (s k)) (lt_le f.site S.count inside) (lower_same ∙ z) in
              ap (signed (xor begun sigma)) none ∙ signed-zero (xor begun sigma)
              ∙ sym (ap (signed (xor (crossing S (f ∷ fs) s S.count) (is_odd (inversions S (f ∷ fs))))) none
              ∙ signed-zero (xor (crossing S (f ∷ fs) s S.count) (is_odd (inversions S (f ∷ fs)))))

    pub string_law : (fs : List Factor) → AreBelow S.count fs → (t s : State) →
        string S fs t s ≡ signed (xor (crossing S fs s S.count) (is_odd (inversions S fs))) (product_below S.count (λ k. matrix S fs k (t k) (s k)))
    string_law [] b t s = ap (λ c. signed (xor c false) (product_below S.count (λ k. identity (t k) (s k)))) (sym (crossing-nil s S.count))
    string_law (f ∷ fs) b t s =
        string_step f fs b.0 t s (xor (crossing S fs s S.count) (is_odd (inversions S fs))) (λ v. string_law fs b.1 (put t f.site v) s) refl
