-- Numbers with the sign of a parity.
use Rattle.std.proofs.Common.{◌≡◌, Bool, true, false, refl, ◌∙◌, ap}
use Rattle.qn_gauss.specs.Gaussian.{Gaussian, mag, zero_g, add_g, mul_g, conj_g, signed}
use Rattle.qn_gauss.proofs.Ring.{mul_comm, mul_neg, neg_neg, neg_zero, neg_add}
use Rattle.qn_gauss.proofs.Conjugate.{conj_neg}
use Rattle.qn_gauss.proofs.Size.{mag-neg}

pub signed-zero : (b : Bool) → signed b zero_g ≡ zero_g
signed-zero true = neg_zero
signed-zero false = refl

pub signed-add : (b : Bool) (x y : Gaussian) → signed b (add_g x y) ≡ add_g (signed b x) (signed b y)
signed-add true x y = neg_add x y
signed-add false x y = refl

pub mul-signed : (b : Bool) (x y : Gaussian) → mul_g x (signed b y) ≡ signed b (mul_g x y)
mul-signed true x y = mul_neg x y
mul-signed false x y = refl

pub signed-mul : (b : Bool) (x y : Gaussian) → mul_g (signed b x) y ≡ signed b (mul_g x y)
signed-mul b x y = mul_comm (signed b x) y ∙ mul-signed b y x ∙ ap (signed b) (mul_comm y x)

pub signed-comm : (b c : Bool) (x : Gaussian) → signed b (signed c x) ≡ signed c (signed b x)
signed-comm true true x = refl
signed-comm true false x = refl
signed-comm false c x = refl

pub signed-twice : (b : Bool) (x : Gaussian) → signed b (signed b x) ≡ x
signed-twice true x = neg_neg x
signed-twice false x = refl

pub conj-signed : (b : Bool) (x : Gaussian) → conj_g (signed b x) ≡ signed b (conj_g x)
conj-signed true x = conj_neg x
conj-signed false x = refl

pub mag_signed : (b : Bool) (x : Gaussian) → mag (signed b x) ≡ mag x
mag_signed true x = mag-neg x
mag_signed false x = refl
