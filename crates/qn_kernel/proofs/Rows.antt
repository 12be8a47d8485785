-- Rows of sums to which products are added.
use Rattle.std.proofs.Common.{◌≡◌, ◌≤◌, ◌<◌, ℕ, zero, suc, ◌+◌, ◌*◌, Bool, List, [], ◌∷◌, ◌++◌, sym, ◌∙◌, ap, ap₂, subst, map, length, get_or, set, take, drop, add-one, ◌⊎◌, inl, inr, eq-or-lt_of_le, arith}
use Rattle.std.specs.List.{sum_by}
use Rattle.std.proofs.lemmas.List.{get_or-map, get_or-set_same, get_or-set_other, take-map, drop-map, get_or-take, get_or-drop, take_more}
use Rattle.std.proofs.lemmas.List.Sums.{sum_by-cons, sum_by_more, sum_by_more_le}
use Rattle.qn_gauss.specs.Gaussian.{Gaussian, zero_g, add_g, mul_g, mag, signed}
use Rattle.qn_gauss.proofs.Ring.{add_assoc, add_comm, add_zero, zero_mul}
use Rattle.qn_gauss.proofs.Size.{mag-add, mag-mul, mag_zero}
use Rattle.qn_gauss.proofs.Signs.{signed-zero, signed-add, signed-mul, mag_signed}
use Rattle.qn_value.specs.Networks.{sum_below}
use Rattle.qn_value.specs.Magnitudes.{total_below}
use Rattle.qn_value.specs.Rows.{sum_over}
use Rattle.qn_strides.proofs.Adding.{total_grows}
use Rattle.qn_kernel.specs.Matrices.{number_at, product_at, size_at, term_at, amount_at, sum_at, ProductValue, AddsMultiple, AddsProducts, HasRoom, AddsTerms, FitsIn, AreAtMost, steps_for}

-- the element of a list as a number of the list of values
pub value_at : {X : Type 0} (f : X → Gaussian) (xs : List X) (i : ℕ) (x : X) → i < length xs → x ≡ get_or xs i x → number_at (map f xs) i ≡ f x
value_at f xs i x l e = get_or-map f xs i x zero_g l ∙ ap f (sym e)

-- a multiple is added at the first places
pub record AreAdded (f : Gaussian) (line old new : List Gaussian) (n : ℕ) : Type 0 where
  pub done : (y : ℕ) → y < n → number_at new y ≡ add_g (number_at old y) (mul_g f (number_at line y))
  pub rest : (y : ℕ) → n ≤ y → number_at new y ≡ number_at old y

pub one_added : (f : Gaussian) (line old new : List Gaussian) (n : ℕ) (v : Gaussian) → n < length new → v ≡ add_g (number_at new n) (mul_g f (number_at line n)) → AreAdded f line old new n → AreAdded f line old (set new n v) (n + 1)
one_added f line old new n v l e h = record { done = done; rest = rest }
  where
    done : (y : ℕ) → y < n + 1 → number_at (set new n v) y ≡ add_g (number_at old y) (mul_g f (number_at line y))
    done y m = by (eq-or-lt_of_le at)
      where
        at : y ≤ n
        at = omega arith

        by : (y ≡ n) ⊎ (y < n) → number_at (set new n v) y ≡ add_g (number_at old y) (mul_g f (number_at line y))
        by (inl same) =
            subst (λ k. number_at (set new n v) k ≡ add_g (number_at old k) (mul_g f (number_at line k))) (sym same)
            (get_or-set_same new n v zero_g l ∙ e ∙ ap (λ w. add_g w (mul_g f (number_at line n))) (h.rest n (omega arith)))
        by (inr less) = get_or-set_other new n y v zero_g (omega arith) ∙ h.done y less

    rest : (y : ℕ) → n + 1 ≤ y → number_at (set new n v) y ≡ number_at old y
    rest y m = get_or-set_other new n y v zero_g (omega arith) ∙ h.rest y (omega arith)

pub nothing_added : (cols : ℕ) (f : Gaussian) (line old : List Gaussian) → f ≡ zero_g → AddsMultiple cols f line old old
nothing_added cols f line old e y l = sym (ap (λ g. add_g (number_at old y) (mul_g g (number_at line y))) e ∙ ap (add_g (number_at old y)) (zero_mul (number_at line y)) ∙ add_zero (number_at old y))

-- ---- sums and their magnitudes

pub sum_size : (f : ℕ → Gaussian) (m : ℕ → ℕ) (n : ℕ) → ((z : ℕ) → mag (f z) ≤ m z) → mag (sum_below n f) ≤ total_below n m
sum_size f m zero h = omega (arith, mag_zero)
sum_size f m (suc n) h = omega (arith, mag-add (sum_below n f) (f n), sum_size f m n h, h n)

-- the next summand has room
room_for : (f : ℕ → Gaussian) (m : ℕ → ℕ) (minus : Bool) (old : Gaussian) (n z most : ℕ) → ((i : ℕ) → mag (f i) ≤ m i) → z < n → mag old + total_below n m ≤ most → mag (add_g old (signed minus (sum_below z f))) + m z ≤ most
room_for f m minus old n z most h l k =
    omega (arith, mag-add old (signed minus (sum_below z f)), mag_signed minus (sum_below z f), sum_size f m z h, total_grows m z n l, k)

term_added : (f : ℕ → Gaussian) (minus : Bool) (old now later : Gaussian) (z : ℕ) (a b : Gaussian) → later ≡ add_g now (mul_g (signed minus a) b) → now ≡ add_g old (signed minus (sum_below z f)) → mul_g a b ≡ f z →
    later ≡ add_g old (signed minus (sum_below (z + 1) f))
term_added f minus old now later z a b e h g =
    e ∙ ap₂ add_g h (signed-mul minus a b ∙ ap (signed minus) g)
    ∙ add_assoc old (signed minus (sum_below z f)) (signed minus (f z))
    ∙ ap (add_g old) (sym (signed-add minus (sum_below z f) (f z)))
    ∙ ap (λ k. add_g old (signed minus (sum_below k f))) (sym (add-one z))

module _ (es fs : List Gaussian) (inner cols x : ℕ) (minus : Bool) (old : List Gaussian) where
  pub no_products : AddsProducts es fs inner cols minus x 0 old old
  no_products y l = sym (ap (add_g (number_at old y)) (signed-zero minus) ∙ add_zero (number_at old y))

  pub products_more : (z : ℕ) (row new line : List Gaussian) (a : Gaussian) → AddsProducts es fs inner cols minus x z old row → AddsMultiple cols (signed minus a) line row new →
      a ≡ number_at es (x * inner + z) → ((y : ℕ) → y < cols → number_at line y ≡ number_at fs (z * cols + y)) → AddsProducts es fs inner cols minus x (z + 1) old new
  products_more z row new line a h k e l y lt =
      term_added (product_at es fs inner cols x y) minus (number_at old y) (number_at row y) (number_at new y) z a (number_at line y) (k y lt) (h y lt) (ap₂ mul_g e (l y lt))

  pub products_room : (z most : ℕ) (row line : List Gaussian) (a f : Gaussian) → HasRoom es fs inner cols x old most → z < inner → AddsProducts es fs inner cols minus x z old row → f ≡ signed minus a →
      a ≡ number_at es (x * inner + z) → ((y : ℕ) → y < cols → number_at line y ≡ number_at fs (z * cols + y)) → (y : ℕ) → y < cols → mag (number_at row y) + mag f * mag (number_at line y) ≤ most
  products_room z most row line a f room lt h s e l y ly =
      subst (λ n. n ≤ most) (sym (ap₂ (λ p q. mag p + q) (h y ly) (ap₂ ◌*◌ (ap mag s ∙ mag_signed minus a ∙ ap mag e) (ap mag (l y ly)))))
      (room_for (product_at es fs inner cols x y) (size_at es fs inner cols x y) minus (number_at old y) inner z most (λ i. mag-mul (number_at es (x * inner + i)) (number_at fs (i * cols + y))) lt (room y ly))

-- a part of a list
pub line_at : {X : Type 0} (f : X → Gaussian) (xs : List X) (a n y : ℕ) → y < n → number_at (map f (take n (drop a xs))) y ≡ number_at (map f xs) (a + y)
line_at f xs a n y l =
    ap (λ (ys : List Gaussian). number_at ys y) (sym (take-map f n (drop a xs)))
    ∙ get_or-take n (map f (drop a xs)) y zero_g l
    ∙ ap (λ (ys : List Gaussian). number_at ys y) (sym (drop-map f a xs))
    ∙ get_or-drop a (map f xs) y zero_g

-- ---- one pair of matrices after another

over_last : {X : Type 0} (xs : List X) (x : X) (f : X → Gaussian) → sum_over (xs ++ x ∷ []) f ≡ add_g (sum_over xs f) (f x)
over_last [] x f = add_comm (f x) zero_g
over_last (y ∷ ys) x f = ap (add_g (f y)) (over_last ys x f) ∙ sym (add_assoc (f y) (sum_over ys f) (f x))

pub over_more : {X : Type 0} (f : X → Gaussian) (xs : List X) (i : ℕ) (x : X) → i < length xs → x ≡ get_or xs i x → sum_over (take (i + 1) xs) f ≡ add_g (sum_over (take i xs) f) (f x)
over_more f xs i x l e = ap (λ ys. sum_over ys f) (take_more xs i x l) ∙ over_last (take i xs) (get_or xs i x) f ∙ ap (λ z. add_g (sum_over (take i xs) f) (f z)) (sym e)

over_size : {X : Type 0} (f : X → Gaussian) (m : X → ℕ) (xs : List X) → ((x : X) → mag (f x) ≤ m x) → mag (sum_over xs f) ≤ sum_by m xs
over_size f m [] h = omega (arith, mag_zero)
over_size f m (x ∷ xs) h = omega (arith, mag-add (f x) (sum_over xs f), h x, over_size f m xs h, sum_by-cons m x xs)

term_size : (x y : ℕ) (s : ProductValue) → mag (term_at x y s) ≤ amount_at x y s
term_size x y s =
    let p : List Gaussian = s.first.cells in
    let q : List Gaussian = s.second.cells in
    omega (
      arith,
      mag_signed s.minus (sum_below s.first.cols (product_at p q s.first.cols s.second.cols x y)),
      sum_size (product_at p q s.first.cols s.second.cols x y) (size_at p q s.first.cols s.second.cols x y) s.first.cols (λ z. mag-mul (number_at p (x * s.first.cols + z)) (number_at q (z * s.second.cols + y))),
    )

-- the sums over the first pairs
pub record AreSummed (xs : List ProductValue) (cols x start : ℕ) (i : ℕ) (row : List Gaussian) (steps : ℕ) : Type 0 where
  pub sums : (y : ℕ) → y < cols → number_at row y ≡ sum_at (take i xs) x y
  pub steps_are : steps ≤ start + steps_for (take i xs) * cols

pub summed_room : (xs : List ProductValue) (cols x start i most steps : ℕ) (row : List Gaussian) (s : ProductValue) → AreSummed xs cols x start i row steps → AreAtMost xs cols x most → i < length xs → s ≡ get_or xs i s → s.second.cols ≡ cols → FitsIn x s row most
summed_room xs cols x start i most steps row s h room l e c y ly =
    let lt : y < cols = omega (arith, ly, c) in
    omega (
      arith,
      ap mag (h.sums y lt),
      over_size (term_at x y) (amount_at x y) (take i xs) (term_size x y),
      sum_by_more_le (amount_at x y) xs i s l,
      ap (amount_at x y) e,
      room y lt,
    )

pub summed_more : (xs : List ProductValue) (cols x start i steps later : ℕ) (row new : List Gaussian) (s : ProductValue) → AreSummed xs cols x start i row steps → i < length xs → s ≡ get_or xs i s → s.second.cols ≡ cols →
    AddsTerms x s row new → later ≤ steps + s.first.cols * cols → AreSummed xs cols x start (i + 1) new later
summed_more xs cols x start i steps later row new s h l e c k m = record {
  sums = λ y ly. k y (omega (arith, ly, c)) ∙ ap (λ z. add_g z (term_at x y s)) (h.sums y ly) ∙ sym (over_more (term_at x y) xs i s l e);
  steps_are =
      let more : steps_for (take (i + 1) xs) ≡ steps_for (take i xs) + s.first.cols = sum_by_more (λ (t : ProductValue). t.first.cols) xs i s l ∙ ap (λ (t : ProductValue). steps_for (take i xs) + t.first.cols) (sym e) in
      omega (arith, m, h.steps_are, ap (λ n. n * cols) more);
}
