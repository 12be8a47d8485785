-- One step of the plain program's recursions.
use Rattle.std.proofs.Common.{◌≡◌, ◌≢◌, ◌≤◌, ◌<◌, ℕ, ◌+◌, ◌*◌, Bool, ◌&&◌, not, List, ◌∷◌, refl, sym, ◌∙◌, ap, ap₂, subst, map, count_by, arith}
use mathlib.Core.Bool.{beq}
use Rattle.qn_sign.specs.Sign.{exchanges, exchange_sign, stands_before, is_odd, xor}
use Rattle.qn_gauss.specs.Gaussian.{Gaussian, zero_g, one_g, mul_g, signed, mag, limit}
use Rattle.qn_value.specs.Networks.{End, Node, Bond, Assignment, Parities, word, goal, sign, values, product, sum_below, flat, at_values}
use Rattle.qn_value.specs.Tensors.{entry_at}
use Rattle.qn_value.specs.Magnitudes.{total_below, total, magnitudes}
use Rattle.qn_value.specs.Numbering.{RowsValue, rows_node, summands, numbered}
use Rattle.qn_sign.proofs.Parity.{is_odd-add}
use Rattle.qn_value.proofs.RowsLemmas.{zero_mul}
use Rattle.std.proofs.Math.Nat.{mul-le-mul_left}
use Rattle.qn_value.proofs.MagnitudeLemmas.{mag_zero}
use Rattle.qn_gauss.proofs.Size.{mag-mul}
use Rattle.qn_value.proofs.NumberingLemmas.{mag_some, rest_passes, sums_numbered, total_numbered, total_grows}
use Rattle.qn_charge.proofs.Parts.{xor_is}

pub order_step : {E : Type 0} (same : E → E → Bool) (odd : E → Bool) (word : List E) (x : E) (later goal : List E) (p o : Bool) → goal ≡ x ∷ later →
    p ≡ is_odd (count_by (λ y. odd x && odd y && stands_before same word y x) later) → o ≡ exchange_sign same odd word later →
    not (beq p o) ≡ exchange_sign same odd word goal
order_step same odd word x later goal p o e f g =
    xor_is p o ∙ ap₂ xor f g
    ∙ sym (is_odd-add (count_by (λ y. odd x && odd y && stands_before same word y x) later) (exchanges same odd word later))
    ∙ ap (exchange_sign same odd word) (sym e)

pub product_none : (t : RowsValue) (ts all : List RowsValue) (c : Assignment) (x : Gaussian) → all ≡ t ∷ ts → x ≡ entry_at t.rows (values t.ends c) → x ≡ zero_g →
    x ≡ product (map rows_node all) c
product_none t ts all c x e f z =
    z ∙ sym (zero_mul (product (map rows_node ts) c)) ∙ ap (λ y. mul_g y (product (map rows_node ts) c)) (sym z ∙ f)
    ∙ ap (λ (us : List RowsValue). product (map rows_node us) c) (sym e)

pub magnitude_none : (t : RowsValue) (ts all : List RowsValue) (c : Assignment) (x : Gaussian) → all ≡ t ∷ ts → x ≡ entry_at t.rows (values t.ends c) → x ≡ zero_g →
    0 ≡ magnitudes (map rows_node all) c
magnitude_none t ts all c x e f z =
    none (magnitudes (map rows_node ts) c) ∙ ap (λ m. m * magnitudes (map rows_node ts) c) (sym mag_zero ∙ ap mag (sym z ∙ f))
    ∙ ap (λ (us : List RowsValue). magnitudes (map rows_node us) c) (sym e)
  where
    none : (m : ℕ) → 0 ≡ 0 * m
    none m = omega arith

pub magnitude_passes : (t : RowsValue) (ts all : List RowsValue) (c : Assignment) (x : Gaussian) → all ≡ t ∷ ts → x ≡ entry_at t.rows (values t.ends c) → x ≢ zero_g →
    limit < magnitudes (map rows_node ts) c → limit < magnitudes (map rows_node all) c
magnitude_passes t ts all c x e f n l =
    subst (λ (us : List RowsValue). limit < magnitudes (map rows_node us) c) (sym e)
    (subst (λ y. limit < mag y * magnitudes (map rows_node ts) c) f (rest_passes (mag x) (magnitudes (map rows_node ts) c) (mag_some x n) l))

pub times_within : (x y z : Gaussian) (s k : ℕ) → z ≡ mul_g x y → k ≡ mag x * s → mag y ≤ s → mag z ≤ k
times_within x y z s k e f small =
    let less : mag x * mag y ≤ mag x * s = mul-le-mul_left (mag x) small in
    let one : mag (mul_g x y) ≤ mag x * mag y = mag-mul x y in
    subst (λ w. mag w ≤ k) (sym e) (omega (arith, less, one, f))

magnitude_one : mag one_g ≡ 1
unfolding one_g
magnitude_one = refl

pub one_within : (x : Gaussian) → x ≡ one_g → mag x ≤ 1
one_within x e = subst (λ y. mag y ≤ 1) (sym e) (omega (arith, magnitude_one))

pub zero_within : (x : Gaussian) → x ≡ zero_g → mag x ≤ 0
zero_within x e = subst (λ y. mag y ≤ 0) (sym e) (omega (arith, mag_zero))

-- a summand with its sign

abbrev pub nodes_of : List RowsValue → List Node
nodes_of ts = map rows_node ts

-- the sum of the first summands, and the sum of their magnitudes

abbrev pub summand_at : Parities → List RowsValue → List Bond → List End → List ℕ → ℕ → Gaussian
summand_at par ts bs opens xs n =
    let c = numbered bs n (at_values opens xs) in
    signed (sign par (nodes_of ts) bs opens c) (product (nodes_of ts) c)

abbrev pub magnitude_at : List RowsValue → List Bond → List End → List ℕ → ℕ → ℕ
magnitude_at ts bs opens xs n = magnitudes (nodes_of ts) (numbered bs n (at_values opens xs))

pub record IsSum (par : Parities) (ts : List RowsValue) (bs : List Bond) (opens : List End) (xs : List ℕ) (n : ℕ) (sum : Gaussian) (size : ℕ) : Type 0 where
  pub value : sum ≡ sum_below n (summand_at par ts bs opens xs)
  pub magnitude : size ≡ total_below n (magnitude_at ts bs opens xs)
  pub within : mag sum ≤ size
  pub bound : size ≤ limit

pub sum_first : (par : Parities) (ts : List RowsValue) (bs : List Bond) (opens : List End) (xs : List ℕ) (z : Gaussian) → z ≡ zero_g → IsSum par ts bs opens xs 0 z 0
sum_first par ts bs opens xs z e = record { value = e; magnitude = refl; within = zero_within z e; bound = omega arith }

-- a summand or a sum that is too large
pub too_large : (par : Parities) (ts : List RowsValue) (bs : List Bond) (opens : List End) (xs : List ℕ) (n count size : ℕ) (sum : Gaussian) →
    IsSum par ts bs opens xs n sum size → n < count → count ≡ summands bs → limit < size + magnitude_at ts bs opens xs n →
    limit < total bs (magnitudes (nodes_of ts)) (at_values opens xs)
too_large par ts bs opens xs n count size sum h l e k =
    let grows : total_below n (magnitude_at ts bs opens xs) + magnitude_at ts bs opens xs n ≤ total_below count (magnitude_at ts bs opens xs) = total_grows count n (magnitude_at ts bs opens xs) l in
    let is : total bs (magnitudes (nodes_of ts)) (at_values opens xs) ≡ total_below count (magnitude_at ts bs opens xs) =
    total_numbered bs (magnitudes (nodes_of ts)) (at_values opens xs) ∙ ap (λ m. total_below m (magnitude_at ts bs opens xs)) (sym e) in
    subst (λ m. limit < m) (sym is) (omega (arith, grows, k, h.magnitude))

-- the whole sum
pub sum_all : (par : Parities) (ts : List RowsValue) (bs : List Bond) (opens : List End) (xs : List ℕ) (n : ℕ) (sum : Gaussian) (size : ℕ) →
    IsSum par ts bs opens xs n sum size → n ≡ summands bs → sum ≡ flat par (nodes_of ts) bs opens (at_values opens xs)
sum_all par ts bs opens xs n sum size h e =
    h.value ∙ ap (λ m. sum_below m (summand_at par ts bs opens xs)) e
    ∙ sym (sums_numbered bs (λ c. signed (sign par (nodes_of ts) bs opens c) (product (nodes_of ts) c)) (at_values opens xs))

pub sum_bounded : (par : Parities) (ts : List RowsValue) (bs : List Bond) (opens : List End) (xs : List ℕ) (n : ℕ) (sum : Gaussian) (size : ℕ) →
    IsSum par ts bs opens xs n sum size → n ≡ summands bs → total bs (magnitudes (nodes_of ts)) (at_values opens xs) ≤ limit
sum_bounded par ts bs opens xs n sum size h e =
    let is : total bs (magnitudes (nodes_of ts)) (at_values opens xs) ≡ total_below n (magnitude_at ts bs opens xs) =
    total_numbered bs (magnitudes (nodes_of ts)) (at_values opens xs) ∙ ap (λ m. total_below m (magnitude_at ts bs opens xs)) (sym e) in
    subst (λ m. m ≤ limit) (sym is) (omega (arith, h.magnitude, h.bound))
