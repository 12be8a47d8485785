use Rattle.std.proofs.Common.{◌≡◌, ℕ, ℤ, Bool, ◌&&◌, List, ◌∷◌, ◌++◌, sym, ◌∙◌, ap, ap₂, subst, count_by, ◌⊎◌, inl, inr}
use mathlib.Core.Path.{fun_ext}
use Rattle.qn_sign.specs.Sign.{is_odd, xor, IsDistinct, Perm}
use Rattle.qn_gauss.specs.Gaussian.{Gaussian, zero_g, mul_g, signed}
use Rattle.qn_value.specs.Networks.{End, Node, Bond, Assignment, sums, same_end, word, goal, odd_end, order_sign, twist_sign, sign, values, product, flat, IsNetwork, IsHomogeneous}
use Rattle.qn_sign.proofs.Order.{distinct-perm}
use Rattle.qn_sign.proofs.Parity.{tally, pairs, xor_left}
use Rattle.qn_sign.proofs.SignLaws.{turned, word_exchange}
use Rattle.qn_gauss.proofs.Ring.{mul_comm, mul_zero}
use Rattle.qn_sign.proofs.Parity.{is_odd-count}
use Rattle.qn_value.proofs.NetLaws.{end_test, word-append, product-append, signed-xor, signed-zero, sums-signed, sign-pairs, mul_swap}

module _ (par : ℤ → ℕ → Bool) (pre : List Node) (n m : Node) (post : List Node) (bs : List Bond) (opens : List End)
    (net : IsNetwork (pre ++ (n ∷ m ∷ post)) bs opens) where
  word_split : (x y : Node) → word (pre ++ (x ∷ y ∷ post)) ≡ word pre ++ (x.ends ++ (y.ends ++ word post))
  word_split x y = word-append pre (x ∷ y ∷ post)

  goal_distinct : IsDistinct same_end (goal bs opens)
  goal_distinct = distinct-perm same_end end_test net.complete net.distinct

  order_exchange : (a : Assignment) → order_sign par (pre ++ (n ∷ m ∷ post)) bs opens a ≡
      xor (tally (odd_end par a) n.ends && tally (odd_end par a) m.ends) (order_sign par (pre ++ (m ∷ n ∷ post)) bs opens a)
  order_exchange a =
      sign-pairs par (pre ++ (n ∷ m ∷ post)) bs opens a
      ∙ ap (λ w. pairs (turned same_end (odd_end par a) w) (goal bs opens)) (word_split n m)
      ∙ word_exchange same_end end_test (odd_end par a) (word pre) n.ends m.ends (word post) (goal bs opens)
      (subst (IsDistinct same_end) (word_split n m) net.distinct) goal_distinct
      (subst (λ w. Perm w (goal bs opens)) (word_split n m) net.complete)
      ∙ ap (xor (tally (odd_end par a) n.ends && tally (odd_end par a) m.ends))
      (sym (sign-pairs par (pre ++ (m ∷ n ∷ post)) bs opens a
      ∙ ap (λ w. pairs (turned same_end (odd_end par a) w) (goal bs opens)) (word_split m n)))

  sign_exchange : (a : Assignment) → sign par (pre ++ (n ∷ m ∷ post)) bs opens a ≡
      xor (tally (odd_end par a) n.ends && tally (odd_end par a) m.ends) (sign par (pre ++ (m ∷ n ∷ post)) bs opens a)
  sign_exchange a =
      ap (xor (twist_sign par bs a)) (order_exchange a)
      ∙ xor_left (twist_sign par bs a) (tally (odd_end par a) n.ends && tally (odd_end par a) m.ends) (order_sign par (pre ++ (m ∷ n ∷ post)) bs opens a)

  product_exchange : (a : Assignment) → product (pre ++ (n ∷ m ∷ post)) a ≡ product (pre ++ (m ∷ n ∷ post)) a
  product_exchange a =
      product-append pre (n ∷ m ∷ post) a
      ∙ ap (mul_g (product pre a)) (mul_swap (n.entry (values n.ends a)) (m.entry (values m.ends a)) (product post a))
      ∙ sym (product-append pre (m ∷ n ∷ post) a)

  zero_first : (a : Assignment) → n.entry (values n.ends a) ≡ zero_g → product (pre ++ (n ∷ m ∷ post)) a ≡ zero_g
  zero_first a e =
      product-append pre (n ∷ m ∷ post) a
      ∙ ap (mul_g (product pre a)) (ap (λ x. mul_g x (product (m ∷ post) a)) e ∙ mul_comm zero_g (product (m ∷ post) a) ∙ mul_zero (product (m ∷ post) a))
      ∙ mul_zero (product pre a)

  zero_second : (a : Assignment) → m.entry (values m.ends a) ≡ zero_g → product (pre ++ (n ∷ m ∷ post)) a ≡ zero_g
  zero_second a e =
      product-append pre (n ∷ m ∷ post) a
      ∙ ap (mul_g (product pre a))
      (ap (mul_g (n.entry (values n.ends a))) (ap (λ x. mul_g x (product post a)) e ∙ mul_comm zero_g (product post a) ∙ mul_zero (product post a))
      ∙ mul_zero (n.entry (values n.ends a)))
      ∙ mul_zero (product pre a)

  at_zero : (s t u : Bool) (x y : Gaussian) → x ≡ y → x ≡ zero_g → signed s x ≡ signed t (signed u y)
  at_zero s t u x y e f =
      ap (signed s) f ∙ signed-zero s
      ∙ sym (ap (λ z. signed t (signed u z)) (sym e ∙ f) ∙ ap (signed t) (signed-zero u) ∙ signed-zero t)

  term_exchange : IsHomogeneous par n → IsHomogeneous par m → (a : Assignment) →
      signed (sign par (pre ++ (n ∷ m ∷ post)) bs opens a) (product (pre ++ (n ∷ m ∷ post)) a) ≡
      signed (n.odd && m.odd) (signed (sign par (pre ++ (m ∷ n ∷ post)) bs opens a) (product (pre ++ (m ∷ n ∷ post)) a))
  term_exchange hn hm a = go (hn a) (hm a)
    where
      go : (is_odd (count_by (odd_end par a) n.ends) ≡ n.odd) ⊎ (n.entry (values n.ends a) ≡ zero_g) →
          (is_odd (count_by (odd_end par a) m.ends) ≡ m.odd) ⊎ (m.entry (values m.ends a) ≡ zero_g) →
          signed (sign par (pre ++ (n ∷ m ∷ post)) bs opens a) (product (pre ++ (n ∷ m ∷ post)) a) ≡
          signed (n.odd && m.odd) (signed (sign par (pre ++ (m ∷ n ∷ post)) bs opens a) (product (pre ++ (m ∷ n ∷ post)) a))
      go (inr z) _ = at_zero _ _ _ _ _ (product_exchange a) (zero_first a z)
      go (inl e) (inr z) = at_zero _ _ _ _ _ (product_exchange a) (zero_second a z)
      go (inl e) (inl f) =
          ap₂ signed (sign_exchange a) (product_exchange a)
          ∙ signed-xor (tally (odd_end par a) n.ends && tally (odd_end par a) m.ends) (sign par (pre ++ (m ∷ n ∷ post)) bs opens a) (product (pre ++ (m ∷ n ∷ post)) a)
          ∙ ap (λ b. signed b (signed (sign par (pre ++ (m ∷ n ∷ post)) bs opens a) (product (pre ++ (m ∷ n ∷ post)) a)))
          (ap₂ ◌&&◌ (sym (is_odd-count (odd_end par a) n.ends) ∙ e) (sym (is_odd-count (odd_end par a) m.ends) ∙ f))

  pub exchange_law : IsHomogeneous par n → IsHomogeneous par m → (a : Assignment) →
      flat par (pre ++ (n ∷ m ∷ post)) bs opens a ≡ signed (n.odd && m.odd) (flat par (pre ++ (m ∷ n ∷ post)) bs opens a)
  exchange_law hn hm a =
      ap (λ (f : Assignment → Gaussian). sums bs f a) (fun_ext (term_exchange hn hm))
      ∙ sums-signed (n.odd && m.odd) bs (λ c. signed (sign par (pre ++ (m ∷ n ∷ post)) bs opens c) (product (pre ++ (m ∷ n ∷ post)) c)) a
