-- Laws of whole numbers and of Gaussian integers as commutative rings.
use Rattle.std.proofs.Common.{◌≡◌, zero, suc, ℤ, pos, negsuc, ◌+ℤ◌, ◌-ℤ◌, ◌*ℤ◌, neg_ℤ, refl, sym, ◌∙◌, ap, ap₂, arith}
use Rattle.std.proofs.lemmas.Int.{ints}
use Rattle.std.proofs.Math.IntN.{suc_ℤ-*ℤ, pred_ℤ-*ℤ, zero-*ℤ, *ℤ-zero, *ℤ_comm, +ℤ_comm, +ℤ_assoc, +ℤ_idr, neg_ℤ-neg_ℤ, neg_ℤ-+ℤ}
use Rattle.qn_gauss.specs.Gaussian.{Gaussian, zero_g, one_g, add_g, mul_g, neg_g}

-- whole numbers

-- one more and one less of a factor, in a product of a sum
up_step : (p q r s t u a b : ℤ) → p ≡ s +ℤ (a +ℤ b) → q ≡ t +ℤ a → r ≡ u +ℤ b → s ≡ t +ℤ u → p ≡ q +ℤ r
up_step p q r s t u a b e f g h = omega (arith, ints)

down_step : (p q r s t u a b : ℤ) → p ≡ s -ℤ (a +ℤ b) → q ≡ t -ℤ a → r ≡ u -ℤ b → s ≡ t +ℤ u → p ≡ q +ℤ r
down_step p q r s t u a b e f g h = omega (arith, ints)

pub distribute : (m a b : ℤ) → m *ℤ (a +ℤ b) ≡ (m *ℤ a) +ℤ (m *ℤ b)
distribute (pos zero) a b = zero-*ℤ (a +ℤ b) ∙ sym (ap₂ ◌+ℤ◌ (zero-*ℤ a) (zero-*ℤ b))
distribute (pos (suc n)) a b =
    up_step _ _ _ _ _ _ a b (suc_ℤ-*ℤ (pos n) (a +ℤ b)) (suc_ℤ-*ℤ (pos n) a) (suc_ℤ-*ℤ (pos n) b) (distribute (pos n) a b)
distribute (negsuc zero) a b =
    down_step _ _ _ _ _ _ a b (pred_ℤ-*ℤ (pos zero) (a +ℤ b)) (pred_ℤ-*ℤ (pos zero) a) (pred_ℤ-*ℤ (pos zero) b)
    (zero-*ℤ (a +ℤ b) ∙ sym (ap₂ ◌+ℤ◌ (zero-*ℤ a) (zero-*ℤ b)))
distribute (negsuc (suc n)) a b =
    down_step _ _ _ _ _ _ a b (pred_ℤ-*ℤ (negsuc n) (a +ℤ b)) (pred_ℤ-*ℤ (negsuc n) a) (pred_ℤ-*ℤ (negsuc n) b) (distribute (negsuc n) a b)

pub distribute_right : (a b m : ℤ) → (a +ℤ b) *ℤ m ≡ (a *ℤ m) +ℤ (b *ℤ m)
distribute_right a b m = *ℤ_comm (a +ℤ b) m ∙ distribute m a b ∙ ap₂ ◌+ℤ◌ (*ℤ_comm m a) (*ℤ_comm m b)

-- what makes 0 with a number is its negative
cancel : (x y : ℤ) → y +ℤ x ≡ pos 0 → x ≡ neg_ℤ y
cancel x y e = omega (arith, ints)

back : (a : ℤ) → a +ℤ neg_ℤ a ≡ pos 0
back a = omega (arith, ints)

pub times_neg : (m a : ℤ) → m *ℤ neg_ℤ a ≡ neg_ℤ (m *ℤ a)
times_neg m a = cancel (m *ℤ neg_ℤ a) (m *ℤ a) (sym (distribute m a (neg_ℤ a)) ∙ ap (λ x. m *ℤ x) (back a) ∙ *ℤ-zero m)

pub neg_times : (a m : ℤ) → neg_ℤ a *ℤ m ≡ neg_ℤ (a *ℤ m)
neg_times a m = *ℤ_comm (neg_ℤ a) m ∙ times_neg m a ∙ ap neg_ℤ (*ℤ_comm m a)

pub distribute_minus : (m a b : ℤ) → m *ℤ (a -ℤ b) ≡ (m *ℤ a) -ℤ (m *ℤ b)
distribute_minus m a b = distribute m a (neg_ℤ b) ∙ ap (λ x. (m *ℤ a) +ℤ x) (times_neg m b)

pub distribute_minus_right : (a b m : ℤ) → (a -ℤ b) *ℤ m ≡ (a *ℤ m) -ℤ (b *ℤ m)
distribute_minus_right a b m = *ℤ_comm (a -ℤ b) m ∙ distribute_minus m a b ∙ ap₂ ◌-ℤ◌ (*ℤ_comm m a) (*ℤ_comm m b)

pub times_assoc : (a b c : ℤ) → (a *ℤ b) *ℤ c ≡ a *ℤ (b *ℤ c)
times_assoc (pos zero) b c = ap (λ x. x *ℤ c) (zero-*ℤ b) ∙ zero-*ℤ c ∙ sym (zero-*ℤ (b *ℤ c))
times_assoc (pos (suc n)) b c =
    ap (λ x. x *ℤ c) (suc_ℤ-*ℤ (pos n) b) ∙ distribute_right (pos n *ℤ b) b c
    ∙ ap (λ x. x +ℤ (b *ℤ c)) (times_assoc (pos n) b c) ∙ sym (suc_ℤ-*ℤ (pos n) (b *ℤ c))
times_assoc (negsuc zero) b c =
    ap (λ x. x *ℤ c) (pred_ℤ-*ℤ (pos zero) b) ∙ distribute_minus_right (pos zero *ℤ b) b c
    ∙ ap (λ x. x -ℤ (b *ℤ c)) (ap (λ x. x *ℤ c) (zero-*ℤ b) ∙ zero-*ℤ c ∙ sym (zero-*ℤ (b *ℤ c))) ∙ sym (pred_ℤ-*ℤ (pos zero) (b *ℤ c))
times_assoc (negsuc (suc n)) b c =
    ap (λ x. x *ℤ c) (pred_ℤ-*ℤ (negsuc n) b) ∙ distribute_minus_right (negsuc n *ℤ b) b c
    ∙ ap (λ x. x -ℤ (b *ℤ c)) (times_assoc (negsuc n) b c) ∙ sym (pred_ℤ-*ℤ (negsuc n) (b *ℤ c))

-- Gaussian integers

-- equal parts make equal numbers
pub gauss_path : (x y : Gaussian) → x.re ≡ y.re → x.im ≡ y.im → x ≡ y
gauss_path x y e f = λ i. record { re = e i; im = f i }

pub add_comm : (x y : Gaussian) → add_g x y ≡ add_g y x
unfolding add_g
add_comm x y = gauss_path _ _ (+ℤ_comm x.re y.re) (+ℤ_comm x.im y.im)

pub add_assoc : (x y z : Gaussian) → add_g (add_g x y) z ≡ add_g x (add_g y z)
unfolding add_g
add_assoc x y z = gauss_path _ _ (+ℤ_assoc x.re y.re z.re) (+ℤ_assoc x.im y.im z.im)

pub add_zero : (x : Gaussian) → add_g x zero_g ≡ x
unfolding add_g zero_g
add_zero x = gauss_path _ _ (+ℤ_idr x.re) (+ℤ_idr x.im)

-- the real and the imaginary part of a product, turned round
mul_comm_re : (a b c d : ℤ) → (a *ℤ c) -ℤ (b *ℤ d) ≡ (c *ℤ a) -ℤ (d *ℤ b)
mul_comm_re a b c d = ap₂ ◌-ℤ◌ (*ℤ_comm a c) (*ℤ_comm b d)

mul_comm_im : (a b c d : ℤ) → (a *ℤ d) +ℤ (b *ℤ c) ≡ (c *ℤ b) +ℤ (d *ℤ a)
mul_comm_im a b c d = ap₂ ◌+ℤ◌ (*ℤ_comm a d) (*ℤ_comm b c) ∙ +ℤ_comm (d *ℤ a) (c *ℤ b)

pub mul_comm : (x y : Gaussian) → mul_g x y ≡ mul_g y x
unfolding mul_g
mul_comm x y = gauss_path _ _ (mul_comm_re x.re x.im y.re y.im) (mul_comm_im x.re x.im y.re y.im)

mul_one_re : (a b : ℤ) → (a *ℤ pos 1) -ℤ (b *ℤ pos 0) ≡ a
mul_one_re a b = omega (arith, ints)

mul_one_im : (a b : ℤ) → (a *ℤ pos 0) +ℤ (b *ℤ pos 1) ≡ b
mul_one_im a b = omega (arith, ints)

pub mul_one : (x : Gaussian) → mul_g x one_g ≡ x
unfolding mul_g one_g
mul_one x = gauss_path _ _ (mul_one_re x.re x.im) (mul_one_im x.re x.im)

pub mul_zero : (x : Gaussian) → mul_g x zero_g ≡ zero_g
unfolding mul_g zero_g
mul_zero x = gauss_path _ _ (at_re x.re x.im) (at_im x.re x.im)
  where
    at_re : (a b : ℤ) → (a *ℤ pos 0) -ℤ (b *ℤ pos 0) ≡ pos 0
    at_re a b = omega (arith, ints)

    at_im : (a b : ℤ) → (a *ℤ pos 0) +ℤ (b *ℤ pos 0) ≡ pos 0
    at_im a b = omega (arith, ints)

pub mul_add : (x y z : Gaussian) → mul_g x (add_g y z) ≡ add_g (mul_g x y) (mul_g x z)
unfolding mul_g add_g
mul_add x y z =
    gauss_path _ _
    (ap₂ ◌-ℤ◌ (distribute x.re y.re z.re) (distribute x.im y.im z.im) ∙ at_re (x.re *ℤ y.re) (x.re *ℤ z.re) (x.im *ℤ y.im) (x.im *ℤ z.im))
    (ap₂ ◌+ℤ◌ (distribute x.re y.im z.im) (distribute x.im y.re z.re) ∙ at_im (x.re *ℤ y.im) (x.re *ℤ z.im) (x.im *ℤ y.re) (x.im *ℤ z.re))
  where
    at_re : (p q r s : ℤ) → (p +ℤ q) -ℤ (r +ℤ s) ≡ (p -ℤ r) +ℤ (q -ℤ s)
    at_re p q r s = omega (arith, ints)

    at_im : (p q r s : ℤ) → (p +ℤ q) +ℤ (r +ℤ s) ≡ (p +ℤ r) +ℤ (q +ℤ s)
    at_im p q r s = omega (arith, ints)

pub mul_assoc : (x y z : Gaussian) → mul_g (mul_g x y) z ≡ mul_g x (mul_g y z)
unfolding mul_g
mul_assoc x y z =
    gauss_path _ _
    (ap₂ ◌-ℤ◌ (distribute_minus_right (x.re *ℤ y.re) (x.im *ℤ y.im) z.re) (distribute_right (x.re *ℤ y.im) (x.im *ℤ y.re) z.im)
    ∙ at_re _ _ _ _ _ _ _ _ (times_assoc x.re y.re z.re) (times_assoc x.im y.im z.re) (times_assoc x.re y.im z.im) (times_assoc x.im y.re z.im)
    ∙ sym (ap₂ ◌-ℤ◌ (distribute_minus x.re (y.re *ℤ z.re) (y.im *ℤ z.im)) (distribute x.im (y.re *ℤ z.im) (y.im *ℤ z.re))))
    (ap₂ ◌+ℤ◌ (distribute_minus_right (x.re *ℤ y.re) (x.im *ℤ y.im) z.im) (distribute_right (x.re *ℤ y.im) (x.im *ℤ y.re) z.re)
    ∙ at_im _ _ _ _ _ _ _ _ (times_assoc x.re y.re z.im) (times_assoc x.im y.im z.im) (times_assoc x.re y.im z.re) (times_assoc x.im y.re z.re)
    ∙ sym (ap₂ ◌+ℤ◌ (distribute x.re (y.re *ℤ z.im) (y.im *ℤ z.re)) (distribute_minus x.im (y.re *ℤ z.re) (y.im *ℤ z.im))))
  where
    at_re : (p q r s p' q' r' s' : ℤ) → p ≡ p' → q ≡ q' → r ≡ r' → s ≡ s' → (p -ℤ q) -ℤ (r +ℤ s) ≡ (p' -ℤ r') -ℤ (s' +ℤ q')
    at_re p q r s p' q' r' s' e f g h = omega (arith, ints)

    at_im : (p q r s p' q' r' s' : ℤ) → p ≡ p' → q ≡ q' → r ≡ r' → s ≡ s' → (p -ℤ q) +ℤ (r +ℤ s) ≡ (p' +ℤ r') +ℤ (s' -ℤ q')
    at_im p q r s p' q' r' s' e f g h = omega (arith, ints)

pub neg_neg : (x : Gaussian) → neg_g (neg_g x) ≡ x
unfolding neg_g
neg_neg x = gauss_path _ _ (neg_ℤ-neg_ℤ x.re) (neg_ℤ-neg_ℤ x.im)

pub neg_zero : neg_g zero_g ≡ zero_g
unfolding neg_g zero_g
neg_zero = refl

pub mul_neg : (x y : Gaussian) → mul_g x (neg_g y) ≡ neg_g (mul_g x y)
unfolding mul_g neg_g
mul_neg x y =
    gauss_path _ _
    (at_re _ _ _ _ (times_neg x.re y.re) (times_neg x.im y.im))
    (at_im _ _ _ _ (times_neg x.re y.im) (times_neg x.im y.re))
  where
    at_re : (p q p' q' : ℤ) → p ≡ neg_ℤ p' → q ≡ neg_ℤ q' → p -ℤ q ≡ neg_ℤ (p' -ℤ q')
    at_re p q p' q' e f = omega (arith, ints)

    at_im : (p q p' q' : ℤ) → p ≡ neg_ℤ p' → q ≡ neg_ℤ q' → p +ℤ q ≡ neg_ℤ (p' +ℤ q')
    at_im p q p' q' e f = omega (arith, ints)

pub zero_add : (x : Gaussian) → add_g zero_g x ≡ x
zero_add x = add_comm zero_g x ∙ add_zero x

pub one_mul : (x : Gaussian) → mul_g one_g x ≡ x
one_mul x = mul_comm one_g x ∙ mul_one x

pub zero_mul : (x : Gaussian) → mul_g zero_g x ≡ zero_g
zero_mul x = mul_comm zero_g x ∙ mul_zero x

pub mul_add_right : (x y z : Gaussian) → mul_g (add_g x y) z ≡ add_g (mul_g x z) (mul_g y z)
mul_add_right x y z = mul_comm (add_g x y) z ∙ mul_add z x y ∙ ap₂ add_g (mul_comm z x) (mul_comm z y)

-- the first two of three factors change places
pub mul_swap : (x y z : Gaussian) → mul_g x (mul_g y z) ≡ mul_g y (mul_g x z)
mul_swap x y z = sym (mul_assoc x y z) ∙ ap (λ w. mul_g w z) (mul_comm x y) ∙ mul_assoc y x z

pub neg_add : (x y : Gaussian) → neg_g (add_g x y) ≡ add_g (neg_g x) (neg_g y)
unfolding add_g neg_g
neg_add x y = gauss_path _ _ (neg_ℤ-+ℤ x.re y.re) (neg_ℤ-+ℤ x.im y.im)
