-- A diagonal tensor in a network with one other: what the contraction is worth.
use Rattle.std.proofs.Common.{◌≡◌, ◌<◌, ℕ, zero, suc, ◌+◌, ◌*◌, ◌==◌, Bool, true, false, ◌&&◌, cond, List, [], ◌∷◌, ◌++◌, refl, sym, ◌∙◌, ap, ap₂, append-nil, eqb-true, eq-eqb, int_eq, arith}
use Rattle.std.proofs.lemmas.Bool.{ne_eqb, eqb-false}
use Rattle.std.proofs.lemmas.List.{map-append}
use Rattle.qn_sign.specs.Sign.{xor, exchange_sign, IsDistinct}
use Rattle.qn_gauss.specs.Gaussian.{Gaussian, zero_g, one_g, add_g, mul_g, mag, signed}
use Rattle.qn_gauss.proofs.Ring.{zero_add, add_zero, zero_mul, mul_one}
use Rattle.qn_gauss.proofs.Signs.{signed-zero, signed-mul, signed-twice, mag_signed}
use Rattle.qn_value.specs.Networks.{End, Node, Bond, Assignment, Parities, assign, in_end, out_end, same_end, odd_end, sign, order_sign, product, values, sum_below, flat}
use Rattle.qn_value.specs.Magnitudes.{total_below, total, magnitudes}
use Rattle.qn_value.proofs.NetLaws.{end_test}
use Rattle.qn_value.proofs.Sums.{label_test}
use Rattle.qn_value.proofs.MagnitudeLemmas.{mag_zero}
use Rattle.qn_diagonal.proofs.Signs.{out_sign, in_sign}

-- sums with one summand

sum_none : (n : ℕ) (f : ℕ → Gaussian) → ((v : ℕ) → v < n → f v ≡ zero_g) → sum_below n f ≡ zero_g
sum_none zero f h = refl
sum_none (suc n) f h = ap₂ add_g (sum_none n f (λ v l. h v (omega arith))) (h n (omega arith)) ∙ add_zero zero_g

sum_one : (n k : ℕ) (f : ℕ → Gaussian) → k < n → ((v : ℕ) → v < n → (v == k) ≡ false → f v ≡ zero_g) → sum_below n f ≡ f k
sum_one zero k f l h = absurd (omega arith)
sum_one (suc n) k f l h = go (n == k) refl (λ m. sum_one n k f m (λ v c. h v (omega arith)))
  where
    go : (b : Bool) → (n == k) ≡ b → (k < n → sum_below n f ≡ f k) → add_g (sum_below n f) (f n) ≡ f k
    go true e ih =
        let same : n ≡ k = eqb-true n k e in
        ap (λ g. add_g g (f n)) (sum_none n f (λ v m. h v (omega arith) (ne_eqb v k (λ q. absurd (omega (arith, m, q, same)))))) ∙ zero_add (f n) ∙ ap f same
    go false e ih =
        let other : n ≡ k → ⊥ = eqb-false n k e in
        ap (add_g (sum_below n f)) (h n (omega arith) e) ∙ add_zero (sum_below n f) ∙ ih (below n k l other)
      where
        below : (c d : ℕ) → d < suc c → (c ≡ d → ⊥) → d < c
        below c d l o = grind (arith, l, o)

total_none : (n : ℕ) (f : ℕ → ℕ) → ((v : ℕ) → v < n → f v ≡ 0) → total_below n f ≡ 0
total_none zero f h = refl
total_none (suc n) f h = ap₂ ◌+◌ (total_none n f (λ v l. h v (omega arith))) (h n (omega arith))

total_one : (n k : ℕ) (f : ℕ → ℕ) → k < n → ((v : ℕ) → v < n → (v == k) ≡ false → f v ≡ 0) → total_below n f ≡ f k
total_one zero k f l h = absurd (omega arith)
total_one (suc n) k f l h = go (n == k) refl (λ m. total_one n k f m (λ v c. h v (omega arith)))
  where
    plus_none : (m c : ℕ) → c ≡ 0 → m + c ≡ m
    plus_none m c e = omega (arith, e)

    none_plus : (m c : ℕ) → m ≡ 0 → m + c ≡ c
    none_plus m c e = omega (arith, e)

    below : (c d : ℕ) → d < suc c → (c ≡ d → ⊥) → d < c
    below c d l o = grind (arith, l, o)

    go : (b : Bool) → (n == k) ≡ b → (k < n → total_below n f ≡ f k) → total_below n f + f n ≡ f k
    go true e ih =
        let same : n ≡ k = eqb-true n k e in
        none_plus (total_below n f) (f n) (total_none n f (λ v m. h v (omega arith) (ne_eqb v k (λ q. absurd (omega (arith, m, q, same)))))) ∙ ap f same
    go false e ih = plus_none (total_below n f) (f n) (h n (omega arith) e) ∙ ih (below n k l (eqb-false n k e))

-- x is the open leg of the diagonal tensor and y the other one, z the leg of the second tensor on the same line as y; left and right are its other legs
module _ (par : Parities) (x y z : End) (left right : List End) (table other : List ℕ → Gaussian) (odd1 odd2 : Bool) (b : Bond) where
  abbrev pub nodes : List Node
  nodes = record { ends = x ∷ y ∷ []; entry = table; odd = odd1 } ∷ record { ends = left ++ (z ∷ right); entry = other; odd = odd2 } ∷ []

  -- the legs of the second tensor, x in the place of z
  abbrev pub opens : List End
  opens = left ++ (x ∷ right)

  -- z points inward and y does not, or the other way round
  abbrev pub Turned : Bool → Type 0
  Turned true = (z ≡ in_end b) × (y ≡ out_end b)
  Turned false = (y ≡ in_end b) × (z ≡ out_end b)

  pub record IsWeighing (inward : Bool) (weight : Gaussian) (v : ℕ) (a : Assignment) : Type 0 where
    pub distinct : IsDistinct same_end (x ∷ y ∷ (left ++ (z ∷ right)))
    pub turned : Turned inward
    pub plain : b.twisted ≡ false
    pub within : v < b.dim
    pub value : a x ≡ v
    pub x_apart : int_eq x.label b.label ≡ false
    pub left_apart : (u : ℕ) → values left (assign a b.label u) ≡ values left a
    pub right_apart : (u : ℕ) → values right (assign a b.label u) ≡ values right a
    pub parity : par x.label v ≡ par b.label v
    pub entry : (w : ℕ) → w < b.dim → table (v ∷ w ∷ []) ≡ cond (v == w) (signed (inward && par b.label v) weight) zero_g

  module _ (inward : Bool) (weight : Gaussian) (v : ℕ) (a : Assignment) (h : IsWeighing inward weight v a) where
    abbrev k : ℕ → Assignment
    k w = assign a b.label w

    label_y : y.label ≡ b.label
    label_y = go inward h.turned
      where
        go : (i : Bool) → Turned i → y.label ≡ b.label
        go true t = ap (λ (e : End). e.label) t.1
        go false t = ap (λ (e : End). e.label) t.0

    label_z : z.label ≡ b.label
    label_z = go inward h.turned
      where
        go : (i : Bool) → Turned i → z.label ≡ b.label
        go true t = ap (λ (e : End). e.label) t.0
        go false t = ap (λ (e : End). e.label) t.1

    at_bond : (e : End) (w : ℕ) → e.label ≡ b.label → k w e ≡ w
    at_bond e w f = ap (λ t. cond t w (a e)) (ap (λ l. int_eq l b.label) f ∙ label_test.itself b.label)

    at_x : (w : ℕ) → k w x ≡ v
    at_x w = ap (λ t. cond t w (a x)) h.x_apart ∙ h.value

    table_at : (w : ℕ) → table (k w x ∷ k w y ∷ []) ≡ table (v ∷ w ∷ [])
    table_at w = ap₂ (λ s t. table (s ∷ t ∷ [])) (at_x w) (at_bond y w label_y)

    off : (w : ℕ) → w < b.dim → (w == v) ≡ false → table (v ∷ w ∷ []) ≡ zero_g
    off w l e = h.entry w l ∙ ap (λ t. cond t (signed (inward && par b.label v) weight) zero_g) (ne_eqb v w (λ q. eqb-false w v e (sym q)))

    other_at : (w : ℕ) → values (left ++ (z ∷ right)) (k w) ≡ values left a ++ (w ∷ values right a)
    other_at w =
        map-append (k w) left (z ∷ right)
        ∙ (λ i. h.left_apart w i ++ (at_bond z w label_z i ∷ h.right_apart w i))

    weighed : table (v ∷ v ∷ []) ≡ signed (inward && par b.label v) weight
    weighed = h.entry v h.within ∙ ap (λ t. cond t (signed (inward && par b.label v) weight) zero_g) (eq-eqb v v refl)

    sign_is : sign par nodes (b ∷ []) opens (k v) ≡ (inward && par b.label v)
    sign_is =
        ap (λ t. xor (xor (t && par b.label (k v (in_end b))) false) (order_sign par nodes (b ∷ []) opens (k v))) h.plain
        ∙ ap (λ es. exchange_sign same_end (odd_end par (k v)) es (in_end b ∷ out_end b ∷ opens)) (ap (λ es. x ∷ y ∷ es) (append-nil (left ++ (z ∷ right))))
        ∙ go inward h.turned
      where
        odd_x : odd_end par (k v) x ≡ odd_end par (k v) y
        odd_x = ap (par x.label) (at_x v) ∙ h.parity ∙ sym (ap₂ par label_y (at_bond y v label_y))

        odd_z : odd_end par (k v) z ≡ odd_end par (k v) y
        odd_z = ap₂ par (label_z ∙ sym label_y) (at_bond z v label_z ∙ sym (at_bond y v label_y))

        go : (i : Bool) → Turned i → exchange_sign same_end (odd_end par (k v)) (x ∷ y ∷ (left ++ (z ∷ right))) (in_end b ∷ out_end b ∷ opens) ≡ (i && par b.label v)
        go true t =
            ap₂ (λ p q. exchange_sign same_end (odd_end par (k v)) (x ∷ y ∷ (left ++ (z ∷ right))) (p ∷ q ∷ opens)) (sym t.0) (sym t.1)
            ∙ in_sign same_end end_test (odd_end par (k v)) x y z left right h.distinct odd_x odd_z
            ∙ ap₂ par label_z (at_bond z v label_z)
        go false t =
            ap₂ (λ p q. exchange_sign same_end (odd_end par (k v)) (x ∷ y ∷ (left ++ (z ∷ right))) (p ∷ q ∷ opens)) (sym t.0) (sym t.1)
            ∙ out_sign same_end end_test (odd_end par (k v)) x y z left right h.distinct odd_x odd_z

    pub weighs : flat par nodes (b ∷ []) opens a ≡ mul_g weight (other (values left a ++ (v ∷ values right a)))
    weighs =
        sum_one b.dim v (λ w. signed (sign par nodes (b ∷ []) opens (k w)) (product nodes (k w))) h.within
        (λ w l e. ap (signed (sign par nodes (b ∷ []) opens (k w)))
        (ap (λ s. mul_g s (mul_g (other (values (left ++ (z ∷ right)) (k w))) one_g)) (table_at w ∙ off w l e) ∙ zero_mul (mul_g (other (values (left ++ (z ∷ right)) (k w))) one_g))
        ∙ signed-zero (sign par nodes (b ∷ []) opens (k w)))
        ∙ ap₂ signed sign_is (ap₂ mul_g (table_at v ∙ weighed) (mul_one (other (values (left ++ (z ∷ right)) (k v))) ∙ ap other (other_at v)))
        ∙ cleared (inward && par b.label v) weight (other (values left a ++ (v ∷ values right a)))
      where
        cleared : (m : Bool) (g u : Gaussian) → signed m (mul_g (signed m g) u) ≡ mul_g g u
        cleared m g u = ap (signed m) (signed-mul m g u) ∙ signed-twice m (mul_g g u)

    pub sizes : total (b ∷ []) (magnitudes nodes) a ≡ mag weight * mag (other (values left a ++ (v ∷ values right a)))
    sizes =
        total_one b.dim v (λ w. magnitudes nodes (k w)) h.within
        (λ w l e. ap (λ s. mag s * (mag (other (values (left ++ (z ∷ right)) (k w))) * 1)) (table_at w ∙ off w l e) ∙ ap (λ n. n * (mag (other (values (left ++ (z ∷ right)) (k w))) * 1)) mag_zero ∙ none (mag (other (values (left ++ (z ∷ right)) (k w))) * 1))
        ∙ ap₂ (λ s t. mag s * (mag t * 1)) (table_at v ∙ weighed) (ap other (other_at v))
        ∙ ap (λ n. n * (mag (other (values left a ++ (v ∷ values right a))) * 1)) (mag_signed (inward && par b.label v) weight)
        ∙ ap (λ n. mag weight * n) (single (mag (other (values left a ++ (v ∷ values right a)))))
      where
        none : (n : ℕ) → 0 * n ≡ 0
        none n = omega arith

        single : (n : ℕ) → n * 1 ≡ n
        single n = omega arith
