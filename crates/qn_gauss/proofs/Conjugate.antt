-- The conjugate of sums, products and negatives.
use Rattle.std.proofs.Common.{◌≡◌, ℤ, ◌+ℤ◌, ◌-ℤ◌, ◌*ℤ◌, neg_ℤ, refl, sym, ◌∙◌, ap, arith}
use Rattle.std.proofs.lemmas.Int.{ints}
use Rattle.std.proofs.Math.IntN.{neg_ℤ-neg_ℤ, neg_ℤ-+ℤ}
use Rattle.qn_gauss.specs.Gaussian.{Gaussian, zero_g, one_g, add_g, mul_g, neg_g, conj_g}
use Rattle.qn_gauss.proofs.Ring.{gauss_path, times_neg, neg_times}

pub conj_zero : conj_g zero_g ≡ zero_g
unfolding conj_g zero_g
conj_zero = refl

pub conj_one : conj_g one_g ≡ one_g
unfolding conj_g one_g
conj_one = refl

pub conj_neg : (x : Gaussian) → conj_g (neg_g x) ≡ neg_g (conj_g x)
unfolding conj_g neg_g
conj_neg x = refl

pub conj_add : (x y : Gaussian) → conj_g (add_g x y) ≡ add_g (conj_g x) (conj_g y)
unfolding conj_g add_g
conj_add x y = gauss_path _ _ refl (neg_ℤ-+ℤ x.im y.im)

pub conj_mul : (x y : Gaussian) → conj_g (mul_g x y) ≡ mul_g (conj_g x) (conj_g y)
unfolding conj_g mul_g
conj_mul x y =
    gauss_path _ _
    (ap (λ z. (x.re *ℤ y.re) -ℤ z) (sym (neg_times x.im (neg_ℤ y.im) ∙ ap neg_ℤ (times_neg x.im y.im) ∙ neg_ℤ-neg_ℤ (x.im *ℤ y.im))))
    (at_im _ _ _ _ (times_neg x.re y.im) (neg_times x.im y.re))
  where
    at_im : (p q p' q' : ℤ) → p' ≡ neg_ℤ p → q' ≡ neg_ℤ q → neg_ℤ (p +ℤ q) ≡ p' +ℤ q'
    at_im p q p' q' e f = omega (arith, ints)
