-- Sums that are added up one summand at a time, with their sums of magnitudes.
use Rattle.std.proofs.Common.{◌≡◌, ◌≤◌, ◌<◌, ◌-◌, ℕ, zero, suc, ◌+◌, ◌*◌, ◌^◌, Bool, List, ◌∷◌, refl, sym, ◌∙◌, ap, subst, length, add-one, ◌⊎◌, inl, inr, eq-or-lt_of_le, arith}
use Rattle.std.specs.List.{All}
use Rattle.qn_gauss.specs.Gaussian.{Gaussian, zero_g, add_g, mag, limit, signed}
use Rattle.qn_gauss.proofs.Ring.{add_assoc, add_zero}
use Rattle.qn_value.specs.Networks.{sum_below}
use Rattle.qn_value.specs.Magnitudes.{total_below}
use Rattle.qn_value.proofs.NetLaws.{signed-zero}
use Rattle.qn_value.proofs.RowsLemmas.{signed-add}
use Rattle.qn_strides.specs.Strides.{SummedValue, IsSummed, sum_along, total_along}

-- the first n summands are added to a sum
pub record IsAdded (g : ℕ → Gaussian) (m : ℕ → ℕ) (minus : Bool) (sum : Gaussian) (size n : ℕ) (total : Gaussian) (bound : ℕ) : Type 0 where
  pub value : total ≡ add_g sum (signed minus (sum_below n g))
  pub size_is : bound ≡ size + total_below n m
  pub small : bound ≤ limit
  pub within : mag total ≤ bound

pub added_first : (g : ℕ → Gaussian) (m : ℕ → ℕ) (minus : Bool) (sum : Gaussian) (size : ℕ) → size ≤ limit → mag sum ≤ size → IsAdded g m minus sum size 0 sum size
added_first g m minus sum size h l = record {
  value = sym (ap (add_g sum) (signed-zero minus) ∙ add_zero sum);
  size_is = omega arith;
  small = h;
  within = l;
}

pub added_more : (g : ℕ → Gaussian) (m : ℕ → ℕ) (minus : Bool) (sum : Gaussian) (size n : ℕ) (total : Gaussian) (bound : ℕ) (more : Gaussian) (larger : ℕ) → IsAdded g m minus sum size n total bound →
    more ≡ add_g total (signed minus (g n)) → larger ≡ bound + m n → larger ≤ limit → mag more ≤ larger → IsAdded g m minus sum size (n + 1) more larger
added_more g m minus sum size n total bound more larger h e f k l =
    subst (λ i. IsAdded g m minus sum size i more larger) (sym (add-one n)) record {
      value =
          e ∙ ap (λ z. add_g z (signed minus (g n))) h.value
          ∙ add_assoc sum (signed minus (sum_below n g)) (signed minus (g n))
          ∙ ap (add_g sum) (sym (signed-add minus (sum_below n g) (g n)));
      size_is = omega (arith, f, h.size_is);
      small = k;
      within = l;
    }

pub total_grows : (m : ℕ → ℕ) (n len : ℕ) → n < len → total_below n m + m n ≤ total_below len m
total_grows m n zero l = absurd (omega arith)
total_grows m n (suc len) l = by (eq-or-lt_of_le below) (total_grows m n len)
  where
    below : n ≤ len
    below = omega arith

    by : (n ≡ len) ⊎ (n < len) → (n < len → total_below n m + m n ≤ total_below len m) → total_below n m + m n ≤ total_below len m + m len
    by (inl e) ih = subst (λ k. total_below n m + m n ≤ total_below k m + m k) e (omega arith)
    by (inr k) ih = omega (arith, ih k)

-- a sum that is out of range after one of its summands stays so
pub added_passes : (g : ℕ → Gaussian) (m : ℕ → ℕ) (minus : Bool) (sum : Gaussian) (size n len : ℕ) (total : Gaussian) (bound : ℕ) → IsAdded g m minus sum size n total bound → n < len →
    limit < bound + m n → limit < size + total_below len m
added_passes g m minus sum size n len total bound h l p = omega (arith, h.size_is, total_grows m n len l, p)

pub mag_zero : mag zero_g ≡ 0
unfolding zero_g
mag_zero = refl

-- ---- along one axis

pub axes_rest : (axis : SummedValue) (rest all : List SummedValue) → all ≡ axis ∷ rest → All IsSummed all → All IsSummed rest
axes_rest axis rest all e h k d l = subst (λ xs. All IsSummed xs) e h (suc k) d (omega arith)

pub room_rest : (axis : SummedValue) (rest all : List SummedValue) (start place : ℕ) → all ≡ axis ∷ rest → start + length all * 2 ^ 40 ≤ 2 ^ 60 → place ≤ start + 2 ^ 39 → place + length rest * 2 ^ 40 ≤ 2 ^ 60
room_rest axis rest all start place e h l = let n : length all ≡ length (axis ∷ rest) = ap (λ (xs : List SummedValue). length xs) e in omega (arith, h, l, n)

pub along_passes : (g : ℕ → Gaussian) (m : ℕ → ℕ) (axis : SummedValue) (rest all : List SummedValue) (start : ℕ) (minus : Bool) (sum : Gaussian) (size n : ℕ) (total : Gaussian) (bound place stride : ℕ) → all ≡ axis ∷ rest → stride ≡ axis.stride →
    IsAdded (λ v. sum_along g rest (start + v * stride)) (λ v. total_along m rest (start + v * stride)) minus sum size n total bound → n < axis.len → place ≡ start + n * stride →
    limit < bound + total_along m rest place → limit < size + total_along m all start
along_passes g m axis rest all start minus sum size n total bound place stride e same h l p q =
    subst (λ xs. limit < size + total_along m xs start) (sym e)
    (added_passes (λ v. sum_along g rest (start + v * axis.stride)) (λ v. total_along m rest (start + v * axis.stride)) minus sum size n axis.len total bound
    (subst (λ k. IsAdded (λ v. sum_along g rest (start + v * k)) (λ v. total_along m rest (start + v * k)) minus sum size n total bound) same h) l
    (subst (λ k. limit < bound + total_along m rest k) (p ∙ ap (λ k. start + n * k) same) q))

pub record IsAlong (g : ℕ → Gaussian) (m : ℕ → ℕ) (all : List SummedValue) (start : ℕ) (minus : Bool) (sum : Gaussian) (size : ℕ) (total : Gaussian) (bound : ℕ) : Type 0 where
  pub value : total ≡ add_g sum (signed minus (sum_along g all start))
  pub size_is : bound ≡ size + total_along m all start
  pub small : bound ≤ limit

pub along_all : (g : ℕ → Gaussian) (m : ℕ → ℕ) (axis : SummedValue) (rest all : List SummedValue) (start : ℕ) (minus : Bool) (sum : Gaussian) (size n : ℕ) (total : Gaussian) (bound stride : ℕ) → all ≡ axis ∷ rest → stride ≡ axis.stride →
    IsAdded (λ v. sum_along g rest (start + v * stride)) (λ v. total_along m rest (start + v * stride)) minus sum size n total bound → n ≡ axis.len →
    IsAlong g m all start minus sum size total bound
along_all g m axis rest all start minus sum size n total bound stride e same k f =
    let h : IsAdded (λ v. sum_along g rest (start + v * axis.stride)) (λ v. total_along m rest (start + v * axis.stride)) minus sum size n total bound =
    subst (λ y. IsAdded (λ v. sum_along g rest (start + v * y)) (λ v. total_along m rest (start + v * y)) minus sum size n total bound) same k in
    subst (λ xs. IsAlong g m xs start minus sum size total bound) (sym e) record {
      value = h.value ∙ ap (λ k. add_g sum (signed minus (sum_below k (λ v. sum_along g rest (start + v * axis.stride))))) f;
      size_is = h.size_is ∙ ap (λ k. size + total_below k (λ v. total_along m rest (start + v * axis.stride))) f;
      small = h.small;
    }

pub along_fits : (g : ℕ → Gaussian) (m : ℕ → ℕ) (all : List SummedValue) (start : ℕ) (minus : Bool) (sum : Gaussian) (size : ℕ) (total : Gaussian) (bound : ℕ) → IsAlong g m all start minus sum size total bound →
    limit < size + total_along m all start → ⊥
along_fits g m all start minus sum size total bound h p = omega (arith, h.size_is, h.small, p)
