-- One site of the automaton.
use Rattle.std.proofs.Common.{◌≡◌, ℕ, zero, suc, ◌+◌, ◌<◌, Bool, true, false, ◌&&◌, ◌==◌, cond, List, [], ◌∷◌, refl, sym, ◌∙◌, ap, ap₂, arith}
use Rattle.std.specs.Prelude.{nat_lt}
use Rattle.std.proofs.lemmas.Bool.Decides.{nat_tests}
use mathlib.Core.Path.{fun_ext}
use Rattle.qn_sign.specs.Sign.{is_in, IsDistinct}
use Rattle.qn_gauss.specs.Gaussian.{Gaussian, zero_g, one_g, add_g, mul_g}
use Rattle.qn_value.specs.Networks.{sum_below}
use Rattle.qn_gauss.proofs.Ring.{add_comm, add_zero, mul_comm, mul_assoc, mul_zero, mul_one}
use Rattle.qn_value.proofs.NetLaws.{mul_swap}
use Rattle.qn_opsum.specs.Strings.{Sites, Factor, State, identity, product_below, matrix, AreFrom, AreOrdered}
use Rattle.qn_auto.specs.Automaton.{Term, Stage, same_stage, after, to_come, next, begin, stage, transition}
use Rattle.qn_auto.specs.Automaton.Stage.{not_begun, rest, done}
use Rattle.qn_auto.proofs.Stages.{sum_over-agree, sum_over-scale, pick, pick-absent}
use Rattle.qn_value.specs.Rows.{sum_over}
use Rattle.qn_auto.proofs.Stages.{AllOf}
use Rattle.qn_value.proofs.RowsLemmas.{zero_mul, over-zero, mul_add_right}
use Rattle.qn_value.proofs.Sums.{add_middle}

-- sums over lists

sum_over-add : {A : Type 0} (f g : A → Gaussian) (xs : List A) → sum_over xs (λ x. add_g (f x) (g x)) ≡ add_g (sum_over xs f) (sum_over xs g)
sum_over-add f g [] = sym (add_zero zero_g)
sum_over-add f g (x ∷ xs) = ap (add_g (add_g (f x) (g x))) (sum_over-add f g xs) ∙ add_middle (f x) (g x) (sum_over xs f) (sum_over xs g)

sum_over-swap : {A B : Type 0} (f : A → B → Gaussian) (xs : List A) (ys : List B) →
    sum_over xs (λ x. sum_over ys (λ y. f x y)) ≡ sum_over ys (λ y. sum_over xs (λ x. f x y))
sum_over-swap f [] ys = sym (over-zero ys)
sum_over-swap f (x ∷ xs) ys =
    ap (add_g (sum_over ys (λ y. f x y))) (sum_over-swap f xs ys) ∙ sym (sum_over-add (λ y. f x y) (λ y. sum_over xs (λ z. f z y)) ys)

-- the product over m numbers from j on
abbrev pub product_from : ℕ → ℕ → (ℕ → Gaussian) → Gaussian
product_from j zero f = one_g
product_from j (suc m) f = mul_g (f j) (product_from (suc j) m f)

pub product_from-agree : (i j m : ℕ) (f g : ℕ → Gaussian) → i < j → ((k : ℕ) → i < k → f k ≡ g k) → product_from j m f ≡ product_from j m g
product_from-agree i j zero f g b h = refl
product_from-agree i j (suc m) f g b h = ap₂ mul_g (h j b) (product_from-agree i (suc j) m f g (more i j b) h)
  where
    more : (i j : ℕ) → i < j → i < suc j
    more i j b = omega arith

-- the product over all numbers below n
pub product_from-below : (j m n : ℕ) (f : ℕ → Gaussian) → j + m ≡ n → product_below n f ≡ mul_g (product_below j f) (product_from j m f)
product_from-below j zero n f e = ap (λ k. product_below k f) (sym e ∙ none j) ∙ sym (mul_one (product_below j f))
  where
    none : (j : ℕ) → j + 0 ≡ j
    none j = omega arith
product_from-below j (suc m) n f e =
    product_from-below (suc j) m n f (move j m n e) ∙ mul_assoc (product_below j f) (f j) (product_from (suc j) m f)
  where
    move : (j m n : ℕ) → j + suc m ≡ n → suc j + m ≡ n
    move j m n e = omega (arith, e)

module _ (S : Sites) where
  -- the operators after site j are those on each later site
  pub matrix-after : (fs : List Factor) (j k x y : ℕ) → j < k → matrix S (after j fs) k x y ≡ matrix S fs k x y
  matrix-after [] j k x y b = refl
  matrix-after (f ∷ fs) j k x y b = go (nat_lt j f.site) refl (λ v. matrix-after fs j k v y b)
    where
      elsewhere : (i : ℕ) → nat_lt j i ≡ false → (i == k) ≡ false
      elsewhere i e = grind (arith, nat_tests)

      go : (c : Bool) → nat_lt j f.site ≡ c → ((v : ℕ) → matrix S (after j fs) k v y ≡ matrix S fs k v y) →
          matrix S (cond c (f ∷ after j fs) (after j fs)) k x y ≡ matrix S (f ∷ fs) k x y
      go true e ih = ap (λ (m : ℕ → Gaussian). cond (f.site == k) (sum_below (S.dim k) (λ v. mul_g (S.table k f.op x v) (m v))) (m x)) (fun_ext ih)
      go false e ih =
          ih x ∙ ap (λ c. cond c (sum_below (S.dim k) (λ v. mul_g (S.table k f.op x v) (matrix S fs k v y))) (matrix S fs k x y)) (sym (elsewhere f.site e))

  -- before a term begins there is none
  pub matrix-early : (fs : List Factor) (i j x y : ℕ) → AreFrom i fs → j < i → matrix S fs j x y ≡ identity x y
  matrix-early [] i j x y a b = refl
  matrix-early (f ∷ fs) i j x y a b =
      ap (λ c. cond c (sum_below (S.dim j) (λ v. mul_g (S.table j f.op x v) (matrix S fs j v y))) (matrix S fs j x y)) (elsewhere f.site a.0)
      ∙ matrix-early fs i j x y a.1 b
    where
      elsewhere : (k : ℕ) → nat_lt k i ≡ false → (k == j) ≡ false
      elsewhere k e = grind (arith, nat_tests)

  from_begin : (fs : List Factor) → AreOrdered fs → AreFrom (begin fs) fs
  from_begin [] o = tt
  from_begin (f ∷ fs) o = (itself f.site, o.0)
    where
      itself : (i : ℕ) → nat_lt i i ≡ false
      itself i = grind (arith, nat_tests)

  module _ (ws : List Term) (t s : State) where
    -- the product of a term's matrices on m sites from j on
    abbrev pub path : List Factor → ℕ → ℕ → Gaussian
    path fs j m = product_from j m (λ k. matrix S fs k (t k) (s k))

    -- what the automaton makes of m sites from j on, where it begins in a state
    abbrev pub tail : ℕ → ℕ → Stage → Gaussian
    tail j m not_begun = sum_over ws (λ w. cond (nat_lt (begin w.factors) j) zero_g (mul_g w.amount (path w.factors j m)))
    tail j m (rest fs) = path fs j m
    tail j m done = path [] j m

    tail-to_come : (j m : ℕ) (fs : List Factor) → tail j m (to_come fs) ≡ path fs j m
    tail-to_come j m [] = refl
    tail-to_come j m (f ∷ fs) = refl

    tail-next : (j m : ℕ) (fs : List Factor) → tail (suc j) m (next j fs) ≡ path fs (suc j) m
    tail-next j m fs =
        tail-to_come (suc j) m (after j fs)
        ∙ product_from-agree j (suc j) m (λ k. matrix S (after j fs) k (t k) (s k)) (λ k. matrix S fs k (t k) (s k)) (up j)
        (λ k b. matrix-after fs j k (t k) (s k) b)
      where
        up : (j : ℕ) → j < suc j
        up j = omega arith

    -- the states right of site j are among xs, which has each once
    module _ (j m : ℕ) (xs : List Stage) (d : IsDistinct same_stage xs) where
      abbrev onward : Stage → Gaussian
      onward r = tail (suc j) m r

      -- the states to which a state leads stand at the right
      abbrev pub Leads : Stage → Type 0
      Leads not_begun = Unit {0}
      Leads (rest fs) = is_in same_stage (next j fs) xs ≡ true
      Leads done = is_in same_stage done xs ≡ true

      pick_next : (fs : List Factor) (amount : Gaussian) → is_in same_stage (next j fs) xs ≡ true →
          sum_over xs (λ r. mul_g (cond (same_stage (next j fs) r) amount zero_g) (onward r)) ≡ mul_g amount (path fs (suc j) m)
      pick_next fs amount h = pick (next j fs) amount onward xs d h ∙ ap (mul_g amount) (tail-next j m fs)

      abbrev Stands : Term → Type 0
      Stands w = AreOrdered w.factors × (is_in same_stage (stage j w.factors) xs ≡ true)

      -- a term that begins later waits
      waiting : AllOf Stands ws →
          sum_over xs (λ r. mul_g (cond (same_stage not_begun r) (identity (t j) (s j)) zero_g) (onward r)) ≡ mul_g (identity (t j) (s j)) (onward not_begun)
      waiting h = go (is_in same_stage not_begun xs) refl
        where
          begun : (w : Term) → is_in same_stage not_begun xs ≡ false → Stands w → nat_lt j (begin w.factors) ≡ false
          begun w e st = at (nat_lt j (begin w.factors)) refl
            where
              at : (b : Bool) → nat_lt j (begin w.factors) ≡ b → b ≡ false
              at false f = refl
              at true f = sym (sym (ap (λ z. is_in same_stage z xs) (ap (λ c. cond c not_begun (next j w.factors)) f)) ∙ st.1) ∙ e

          passed : (i : ℕ) → nat_lt j i ≡ false → nat_lt i (suc j) ≡ true
          passed i e = grind (arith, nat_tests)

          go : (b : Bool) → is_in same_stage not_begun xs ≡ b →
              sum_over xs (λ r. mul_g (cond (same_stage not_begun r) (identity (t j) (s j)) zero_g) (onward r)) ≡ mul_g (identity (t j) (s j)) (onward not_begun)
          go true e = pick not_begun (identity (t j) (s j)) onward xs d e
          go false e =
              pick-absent not_begun (identity (t j) (s j)) onward xs e
              ∙ sym (ap (mul_g (identity (t j) (s j)))
              (sum_over-agree Stands (λ w. cond (nat_lt (begin w.factors) (suc j)) zero_g (mul_g w.amount (path w.factors (suc j) m))) (λ w. zero_g)
              (λ w st. ap (λ b. cond b zero_g (mul_g w.amount (path w.factors (suc j) m))) (passed (begin w.factors) (begun w e st))) ws h
              ∙ over-zero ws)
              ∙ mul_zero (identity (t j) (s j)))

      -- a term that begins here
      starts : (w : Term) → Stands w →
          sum_over xs (λ r. mul_g (cond (begin w.factors == j && same_stage (next j w.factors) r) (mul_g w.amount (matrix S w.factors j (t j) (s j))) zero_g) (onward r)) ≡
          cond (begin w.factors == j) (mul_g (mul_g w.amount (matrix S w.factors j (t j) (s j))) (path w.factors (suc j) m)) zero_g
      starts w st = go (begin w.factors == j) refl
        where
          not_before : (i : ℕ) → (i == j) ≡ true → nat_lt j i ≡ false
          not_before i e = grind (arith, nat_tests)

          go : (b : Bool) → (begin w.factors == j) ≡ b →
              sum_over xs (λ r. mul_g (cond (b && same_stage (next j w.factors) r) (mul_g w.amount (matrix S w.factors j (t j) (s j))) zero_g) (onward r)) ≡
              cond b (mul_g (mul_g w.amount (matrix S w.factors j (t j) (s j))) (path w.factors (suc j) m)) zero_g
          go true e =
              pick_next w.factors (mul_g w.amount (matrix S w.factors j (t j) (s j)))
              (sym (ap (λ z. is_in same_stage z xs) (ap (λ c. cond c not_begun (next j w.factors)) (not_before (begin w.factors) e))) ∙ st.1)
          go false e = ap (sum_over xs) (fun_ext (λ r. zero_mul (onward r))) ∙ over-zero xs

      -- a term waits, begins, or has begun before
      one_term : (w : Term) → Stands w →
          add_g (mul_g (identity (t j) (s j)) (cond (nat_lt (begin w.factors) (suc j)) zero_g (mul_g w.amount (path w.factors (suc j) m))))
          (cond (begin w.factors == j) (mul_g (mul_g w.amount (matrix S w.factors j (t j) (s j))) (path w.factors (suc j) m)) zero_g) ≡
          cond (nat_lt (begin w.factors) j) zero_g (mul_g w.amount (path w.factors j (suc m)))
      one_term w st = go (begin w.factors == j) refl (nat_lt (begin w.factors) j) refl
        where
          i : ℕ
          i = begin w.factors

          one : Gaussian
          one = identity (t j) (s j)

          mat : Gaussian
          mat = matrix S w.factors j (t j) (s j)

          at : (p q r p' q' r' : Bool) → p ≡ p' → q ≡ q' → r ≡ r' →
              add_g (mul_g one (cond p' zero_g (mul_g w.amount (path w.factors (suc j) m)))) (cond q' (mul_g (mul_g w.amount mat) (path w.factors (suc j) m)) zero_g) ≡
              cond r' zero_g (mul_g w.amount (mul_g mat (path w.factors (suc j) m))) →
              add_g (mul_g one (cond p zero_g (mul_g w.amount (path w.factors (suc j) m)))) (cond q (mul_g (mul_g w.amount mat) (path w.factors (suc j) m)) zero_g) ≡
              cond r zero_g (mul_g w.amount (mul_g mat (path w.factors (suc j) m)))
          at p q r p' q' r' e f g h = rw (e, f, g) h

          here_1 : (i : ℕ) → (i == j) ≡ true → nat_lt i (suc j) ≡ true
          here_1 i e = grind (arith, nat_tests)

          here_2 : (i : ℕ) → (i == j) ≡ true → nat_lt i j ≡ false
          here_2 i e = grind (arith, nat_tests)

          before_1 : (i : ℕ) → nat_lt i j ≡ true → nat_lt i (suc j) ≡ true
          before_1 i e = grind (arith, nat_tests)

          later_1 : (i : ℕ) → (i == j) ≡ false → nat_lt i j ≡ false → nat_lt i (suc j) ≡ false
          later_1 i e f = grind (arith, nat_tests)

          later_2 : (i : ℕ) → (i == j) ≡ false → nat_lt i j ≡ false → j < i
          later_2 i e f = grind (arith, nat_tests)

          go : (q : Bool) → (begin w.factors == j) ≡ q → (r : Bool) → nat_lt (begin w.factors) j ≡ r →
              add_g (mul_g one (cond (nat_lt (begin w.factors) (suc j)) zero_g (mul_g w.amount (path w.factors (suc j) m))))
              (cond (begin w.factors == j) (mul_g (mul_g w.amount mat) (path w.factors (suc j) m)) zero_g) ≡
              cond (nat_lt (begin w.factors) j) zero_g (mul_g w.amount (mul_g mat (path w.factors (suc j) m)))
          go true e r f =
              at _ _ _ true true false (here_1 (begin w.factors) e) e (here_2 (begin w.factors) e)
              (ap (λ x. add_g x (mul_g (mul_g w.amount mat) (path w.factors (suc j) m))) (mul_zero one)
              ∙ add_comm zero_g (mul_g (mul_g w.amount mat) (path w.factors (suc j) m)) ∙ add_zero (mul_g (mul_g w.amount mat) (path w.factors (suc j) m))
              ∙ mul_assoc w.amount mat (path w.factors (suc j) m))
          go false e true f =
              at _ _ _ true false true (before_1 (begin w.factors) f) e f
              (ap (λ x. add_g x zero_g) (mul_zero one) ∙ add_zero zero_g)
          go false e false f =
              at _ _ _ false false false (later_1 (begin w.factors) e f) e f
              (add_zero (mul_g one (mul_g w.amount (path w.factors (suc j) m)))
              ∙ mul_swap one w.amount (path w.factors (suc j) m)
              ∙ ap (λ x. mul_g w.amount (mul_g x (path w.factors (suc j) m)))
              (sym (matrix-early w.factors (begin w.factors) j (t j) (s j) (from_begin w.factors st.0) (later_2 (begin w.factors) e f))))

      pub step_sum : (l : Stage) → Leads l → AllOf Stands ws →
          sum_over xs (λ r. mul_g (transition S ws j l r (t j) (s j)) (tail (suc j) m r)) ≡ tail j (suc m) l
      step_sum (rest fs) h a = pick_next fs (matrix S fs j (t j) (s j)) h
      step_sum done h a = pick done (identity (t j) (s j)) onward xs d h
      step_sum not_begun h a =
          ap (sum_over xs) (fun_ext (λ r. mul_add_right (waits r) (begins r) (onward r)))
          ∙ sum_over-add (λ r. mul_g (waits r) (onward r)) (λ r. mul_g (begins r) (onward r)) xs
          ∙ ap₂ add_g
          (waiting a ∙ sym (sum_over-scale (identity (t j) (s j)) (λ w. cond (nat_lt (begin w.factors) (suc j)) zero_g (mul_g w.amount (path w.factors (suc j) m))) ws))
          (ap (sum_over xs) (fun_ext (λ r. mul_comm (begins r) (onward r) ∙ sym (sum_over-scale (onward r) (begin_one r) ws)
          ∙ ap (sum_over ws) (fun_ext (λ w. mul_comm (onward r) (begin_one r w)))))
          ∙ sum_over-swap (λ r w. mul_g (begin_one r w) (onward r)) xs ws
          ∙ sum_over-agree Stands (λ w. sum_over xs (λ r. mul_g (begin_one r w) (onward r)))
          (λ w. cond (begin w.factors == j) (mul_g (mul_g w.amount (matrix S w.factors j (t j) (s j))) (path w.factors (suc j) m)) zero_g)
          (λ w st. starts w st) ws a)
          ∙ sym (sum_over-add (λ w. mul_g (identity (t j) (s j)) (cond (nat_lt (begin w.factors) (suc j)) zero_g (mul_g w.amount (path w.factors (suc j) m))))
          (λ w. cond (begin w.factors == j) (mul_g (mul_g w.amount (matrix S w.factors j (t j) (s j))) (path w.factors (suc j) m)) zero_g) ws)
          ∙ sum_over-agree Stands _ (λ w. cond (nat_lt (begin w.factors) j) zero_g (mul_g w.amount (path w.factors j (suc m)))) (λ w st. one_term w st) ws a
        where
          waits : Stage → Gaussian
          waits r = cond (same_stage not_begun r) (identity (t j) (s j)) zero_g

          begin_one : Stage → Term → Gaussian
          begin_one r w = cond (begin w.factors == j && same_stage (next j w.factors) r) (mul_g w.amount (matrix S w.factors j (t j) (s j))) zero_g

          begins : Stage → Gaussian
          begins r = sum_over ws (begin_one r)
