-- The states of the automaton at a link, and sums over them.
use Rattle.std.proofs.Common.{◌≡◌, ℕ, zero, suc, ◌<◌, ◌≤◌, Bool, true, false, ◌&&◌, ◌||◌, ◌==◌, cond, List, [], ◌∷◌, length, refl, sym, ◌∙◌, ap, ap₂, subst, arith}
use Rattle.std.specs.Prelude.{nat_lt}
use Rattle.std.proofs.lemmas.Bool.{false≢true, eqb-true, and_parts, or_parts, or_left, or_right, or_from}
use Rattle.std.proofs.lemmas.Bool.Decides.{nat_tests}
use Rattle.qn_sign.specs.Sign.{is_in, IsTest, IsDistinct}
use Rattle.qn_gauss.specs.Gaussian.{Gaussian, zero_g, add_g, mul_g}
use Rattle.qn_value.specs.Networks.{sum_below}
use Rattle.qn_sign.proofs.Order.{same_symm}
use Rattle.qn_gauss.proofs.Ring.{add_comm, add_assoc, add_zero}
use Rattle.qn_opsum.specs.Strings.{Factor, AreBelow}
use Rattle.qn_auto.specs.Automaton.{Term, Stage, same_factors, same_stage, after, to_come, next, begin, stage, enter, enter_new, stages, stage_at}
use Rattle.qn_auto.specs.Automaton.Stage.{not_begun, rest, done}
use Rattle.qn_opsum.proofs.Products.{same_number}
use Rattle.qn_value.specs.Rows.{sum_over}
use Rattle.qn_value.proofs.RowsLemmas.{zero_mul, over-zero, mul-over}

-- the test of states

factors_itself : (fs : List Factor) → same_factors fs fs ≡ true
factors_itself [] = refl
factors_itself (f ∷ fs) = rw (same_number f.site, same_number f.op, factors_itself fs) refl

factors_equal : (fs gs : List Factor) → same_factors fs gs ≡ true → fs ≡ gs
factors_equal [] [] e = refl
factors_equal [] (g ∷ gs) e = absurd (false≢true e)
factors_equal (f ∷ fs) [] e = absurd (false≢true e)
factors_equal (f ∷ fs) (g ∷ gs) e =
    let p = and_parts (f.site == g.site && f.op == g.op) (same_factors fs gs) e in
    let q = and_parts (f.site == g.site) (f.op == g.op) p.0 in
    let a = eqb-true f.site g.site q.0 in
    let b = eqb-true f.op g.op q.1 in
    let c = factors_equal fs gs p.1 in
    λ i. record { site = a i; op = b i } ∷ c i

stage_itself : (x : Stage) → same_stage x x ≡ true
stage_itself not_begun = refl
stage_itself (rest fs) = factors_itself fs
stage_itself done = refl

stage_equal : (x y : Stage) → same_stage x y ≡ true → x ≡ y
stage_equal not_begun not_begun e = refl
stage_equal not_begun (rest gs) e = absurd (false≢true e)
stage_equal not_begun done e = absurd (false≢true e)
stage_equal (rest fs) not_begun e = absurd (false≢true e)
stage_equal (rest fs) (rest gs) e = ap rest (factors_equal fs gs e)
stage_equal (rest fs) done e = absurd (false≢true e)
stage_equal done not_begun e = absurd (false≢true e)
stage_equal done (rest gs) e = absurd (false≢true e)
stage_equal done done e = refl

pub stage_test : IsTest same_stage
stage_test = record { itself = stage_itself; equal = stage_equal }

-- each element has the property
abbrev pub AllOf : {A : Type 0} → (A → Type 0) → List A → Type 0
AllOf P [] = Unit {0}
AllOf P (x ∷ xs) = P x × AllOf P xs

-- sums over lists

pub sum_over-agree : {A : Type 0} (P : A → Type 0) (f g : A → Gaussian) → ((x : A) → P x → f x ≡ g x) → (xs : List A) → AllOf P xs → sum_over xs f ≡ sum_over xs g
sum_over-agree P f g h [] a = refl
sum_over-agree P f g h (x ∷ xs) a = ap₂ add_g (h x a.0) (sum_over-agree P f g h xs a.1)

pub sum_over-scale : {A : Type 0} (c : Gaussian) (f : A → Gaussian) (xs : List A) → sum_over xs (λ x. mul_g c (f x)) ≡ mul_g c (sum_over xs f)
sum_over-scale c f xs = sym (mul-over xs f c)

-- one state is picked out of the sum
pub pick-absent : (q : Stage) (amount : Gaussian) (f : Stage → Gaussian) (xs : List Stage) → is_in same_stage q xs ≡ false →
    sum_over xs (λ r. mul_g (cond (same_stage q r) amount zero_g) (f r)) ≡ zero_g
pick-absent q amount f [] h = refl
pick-absent q amount f (x ∷ xs) h =
    let p = or_parts (same_stage q x) (is_in same_stage q xs) h in
    ap₂ add_g (ap (λ b. mul_g (cond b amount zero_g) (f x)) p.0 ∙ zero_mul (f x)) (pick-absent q amount f xs p.1) ∙ add_zero zero_g

pub pick : (q : Stage) (amount : Gaussian) (f : Stage → Gaussian) (xs : List Stage) → IsDistinct same_stage xs → is_in same_stage q xs ≡ true →
    sum_over xs (λ r. mul_g (cond (same_stage q r) amount zero_g) (f r)) ≡ mul_g amount (f q)
pick q amount f [] d h = absurd (false≢true h)
pick q amount f (x ∷ xs) d h = go (same_stage q x) refl h (pick q amount f xs d.1)
  where
    go : (b : Bool) → same_stage q x ≡ b → (b || is_in same_stage q xs) ≡ true →
        (is_in same_stage q xs ≡ true → sum_over xs (λ r. mul_g (cond (same_stage q r) amount zero_g) (f r)) ≡ mul_g amount (f q)) →
        add_g (mul_g (cond b amount zero_g) (f x)) (sum_over xs (λ r. mul_g (cond (same_stage q r) amount zero_g) (f r))) ≡ mul_g amount (f q)
    go true e k ih =
        let same : q ≡ x = stage_equal q x e in
        ap (add_g (mul_g amount (f x))) (pick-absent q amount f xs (subst (λ z. is_in same_stage z xs ≡ false) (sym same) d.0))
        ∙ add_zero (mul_g amount (f x)) ∙ ap (λ z. mul_g amount (f z)) (sym same)
    go false e k ih =
        ap₂ add_g (zero_mul (f x)) (ih k) ∙ add_comm zero_g (mul_g amount (f q)) ∙ add_zero (mul_g amount (f q))

-- a sum over the numbers of the states

sum_below-front : (n : ℕ) (f : ℕ → Gaussian) → sum_below (suc n) f ≡ add_g (f 0) (sum_below n (λ v. f (suc v)))
sum_below-front zero f = add_comm zero_g (f 0)
sum_below-front (suc n) f = ap (λ x. add_g x (f (suc n))) (sum_below-front n f) ∙ add_assoc (f 0) (sum_below n (λ v. f (suc v))) (f (suc n))

pub sum_below-stages : (f : Stage → Gaussian) (xs : List Stage) → sum_below (length xs) (λ v. f (stage_at xs v)) ≡ sum_over xs f
sum_below-stages f [] = refl
sum_below-stages f (x ∷ xs) = sum_below-front (length xs) (λ v. f (stage_at (x ∷ xs) v)) ∙ ap (add_g (f x)) (sum_below-stages f xs)

pub stage_at-in : (xs : List Stage) (v : ℕ) → v < length xs → is_in same_stage (stage_at xs v) xs ≡ true
stage_at-in [] v b = absurd (none v b)
  where
    none : (v : ℕ) → v < 0 → ⊥
    none v b = omega arith
stage_at-in (x ∷ xs) zero b = or_left (same_stage x x) (is_in same_stage x xs) (stage_itself x)
stage_at-in (x ∷ xs) (suc v) b = or_right (same_stage (stage_at xs v) x) (is_in same_stage (stage_at xs v) xs) (stage_at-in xs v (less v (length xs) b))
  where
    less : (v n : ℕ) → suc v < suc n → v < n
    less v n b = omega arith

-- the states at a link

module _ (earlier : Stage → Stage → Bool) where
  in-enter : (q x : Stage) (ys : List Stage) → is_in same_stage q (enter earlier x ys) ≡ (same_stage q x || is_in same_stage q ys)
  in-enter q x [] = refl
  in-enter q x (y ∷ ys) = go (earlier x y) (in-enter q x ys)
    where
      turn : (a b c : Bool) → (a || (b || c)) ≡ (b || (a || c))
      turn a b c = grind arith

      go : (b : Bool) → is_in same_stage q (enter earlier x ys) ≡ (same_stage q x || is_in same_stage q ys) →
          is_in same_stage q (cond b (x ∷ y ∷ ys) (y ∷ enter earlier x ys)) ≡ (same_stage q x || (same_stage q y || is_in same_stage q ys))
      go true ih = refl
      go false ih = ap (λ b. same_stage q y || b) ih ∙ turn (same_stage q y) (same_stage q x) (is_in same_stage q ys)

  distinct-enter : (x : Stage) (ys : List Stage) → is_in same_stage x ys ≡ false → IsDistinct same_stage ys → IsDistinct same_stage (enter earlier x ys)
  distinct-enter x [] h d = (refl, tt)
  distinct-enter x (y ∷ ys) h d =
      let p = or_parts (same_stage x y) (is_in same_stage x ys) h in
      go (earlier x y) (distinct-enter x ys p.1 d.1)
      (in-enter y x ys ∙ or_from (same_stage y x) (is_in same_stage y ys) (same_symm same_stage stage_test x y p.0) d.0)
    where
      go : (b : Bool) → IsDistinct same_stage (enter earlier x ys) → is_in same_stage y (enter earlier x ys) ≡ false →
          IsDistinct same_stage (cond b (x ∷ y ∷ ys) (y ∷ enter earlier x ys))
      go true ih n = (h, d)
      go false ih n = (n, ih)

  in-enter_new : (q x : Stage) (ys : List Stage) → is_in same_stage q (enter_new earlier x ys) ≡ (same_stage q x || is_in same_stage q ys)
  in-enter_new q x ys = go (is_in same_stage x ys) refl
    where
      held : (a b : Bool) → (a ≡ true → b ≡ true) → b ≡ (a || b)
      held true b h = h refl
      held false b h = refl

      go : (b : Bool) → is_in same_stage x ys ≡ b → is_in same_stage q (cond b ys (enter earlier x ys)) ≡ (same_stage q x || is_in same_stage q ys)
      go true e = held (same_stage q x) (is_in same_stage q ys) (λ k. subst (λ z. is_in same_stage z ys ≡ true) (sym (stage_equal q x k)) e)
      go false e = in-enter q x ys

  pub stages-distinct : (ws : List Term) (j : ℕ) → IsDistinct same_stage (stages earlier ws j)
  stages-distinct [] j = tt
  stages-distinct (w ∷ ws) j = go (is_in same_stage (stage j w.factors) (stages earlier ws j)) refl (stages-distinct ws j)
    where
      go : (b : Bool) → is_in same_stage (stage j w.factors) (stages earlier ws j) ≡ b → IsDistinct same_stage (stages earlier ws j) →
          IsDistinct same_stage (cond b (stages earlier ws j) (enter earlier (stage j w.factors) (stages earlier ws j)))
      go true e ih = ih
      go false e ih = distinct-enter (stage j w.factors) (stages earlier ws j) e ih

  pub in-stages : (q : Stage) (w : Term) (ws : List Term) (j : ℕ) →
      is_in same_stage q (stages earlier (w ∷ ws) j) ≡ (same_stage q (stage j w.factors) || is_in same_stage q (stages earlier ws j))
  in-stages q w ws j = in-enter_new q (stage j w.factors) (stages earlier ws j)

  -- each term's state is there
  pub all_stand : (ws : List Term) (j : ℕ) → AllOf (λ w. is_in same_stage (stage j w.factors) (stages earlier ws j) ≡ true) ws
  all_stand ws j = go ws (λ q h. h)
    where
      go : (vs : List Term) → ((q : Stage) → is_in same_stage q (stages earlier vs j) ≡ true → is_in same_stage q (stages earlier ws j) ≡ true) →
          AllOf (λ w. is_in same_stage (stage j w.factors) (stages earlier ws j) ≡ true) vs
      go [] h = tt
      go (v ∷ vs) h = (
        h (stage j v.factors) (in-stages (stage j v.factors) v vs j
            ∙ or_left (same_stage (stage j v.factors) (stage j v.factors)) (is_in same_stage (stage j v.factors) (stages earlier vs j)) (stage_itself (stage j v.factors))),
        go vs (λ q k. h q (in-stages q v vs j ∙ or_right (same_stage q (stage j v.factors)) (is_in same_stage q (stages earlier vs j)) k)),
      )

-- what is to come

after-after : (j k : ℕ) → j ≤ k → (fs : List Factor) → after k (after j fs) ≡ after k fs
after-after j k h [] = refl
after-after j k h (f ∷ fs) = go (nat_lt j f.site) refl (after-after j k h fs)
  where
    gone : (i : ℕ) → nat_lt j i ≡ false → nat_lt k i ≡ false
    gone i e = grind (arith, nat_tests)

    go : (b : Bool) → nat_lt j f.site ≡ b → after k (after j fs) ≡ after k fs →
        after k (cond b (f ∷ after j fs) (after j fs)) ≡ cond (nat_lt k f.site) (f ∷ after k fs) (after k fs)
    go true e ih = ap (λ gs. cond (nat_lt k f.site) (f ∷ gs) gs) ih
    go false e ih = ih ∙ ap (λ b. cond b (f ∷ after k fs) (after k fs)) (sym (gone f.site e))

pub after-last : (n j : ℕ) → n ≤ suc j → (fs : List Factor) → AreBelow n fs → after j fs ≡ []
after-last n j h [] b = refl
after-last n j h (f ∷ fs) b = ap (λ c. cond c (f ∷ after j fs) (after j fs)) (not_after f.site b.0) ∙ after-last n j h fs b.1
  where
    not_after : (i : ℕ) → i < n → nat_lt j i ≡ false
    not_after i e = grind (arith, nat_tests)

begin-below : (n : ℕ) (fs : List Factor) → 0 < n → AreBelow n fs → begin fs < n
begin-below n [] h b = h
begin-below n (f ∷ fs) h b = b.0

pub stage-last : (n j : ℕ) → n ≤ suc j → 0 < n → (fs : List Factor) → AreBelow n fs → stage j fs ≡ done
stage-last n j h z fs b =
    ap (λ c. cond c not_begun (next j fs)) (not_after (begin fs) (begin-below n fs z b)) ∙ ap to_come (after-last n j h fs b)
  where
    not_after : (i : ℕ) → i < n → nat_lt j i ≡ false
    not_after i e = grind (arith, nat_tests)

-- where a state leads at site j
abbrev pub lead : ℕ → Stage → Stage
lead j not_begun = not_begun
lead j (rest fs) = next j fs
lead j done = done

-- a term within or after its run goes on as its state says
pub stage-lead : (j : ℕ) (fs : List Factor) → nat_lt j (begin fs) ≡ false → lead (suc j) (next j fs) ≡ stage (suc j) fs
stage-lead j fs h =
    lead-to_come (after j fs)
    ∙ ap to_come (after-after j (suc j) (up j) fs)
    ∙ ap (λ c. cond c not_begun (next (suc j) fs)) (sym (gone (begin fs) h))
  where
    up : (j : ℕ) → j ≤ suc j
    up j = omega arith

    gone : (i : ℕ) → nat_lt j i ≡ false → nat_lt (suc j) i ≡ false
    gone i e = grind (arith, nat_tests)

    lead-to_come : (gs : List Factor) → lead (suc j) (to_come gs) ≡ next (suc j) gs
    lead-to_come [] = refl
    lead-to_come (g ∷ gs) = refl

-- what stands at a link and has begun leads to what stands at the next
pub lead-in : (earlier : Stage → Stage → Bool) (q : Stage) (ws : List Term) (j : ℕ) → is_in same_stage q (stages earlier ws j) ≡ true →
    same_stage q not_begun ≡ false → is_in same_stage (lead (suc j) q) (stages earlier ws (suc j)) ≡ true
lead-in earlier q [] j h n = h
lead-in earlier q (w ∷ ws) j h n =
    in-stages earlier (lead (suc j) q) w ws (suc j)
    ∙ go (same_stage q (stage j w.factors)) refl (sym (in-stages earlier q w ws j) ∙ h) (λ k. lead-in earlier q ws j k n)
  where
    here : q ≡ stage j w.factors → (b : Bool) → nat_lt j (begin w.factors) ≡ b → lead (suc j) q ≡ stage (suc j) w.factors
    here e true f = absurd (false≢true (sym n ∙ ap (λ z. same_stage z not_begun) (e ∙ ap (λ c. cond c not_begun (next j w.factors)) f)))
    here e false f = ap (lead (suc j)) (e ∙ ap (λ c. cond c not_begun (next j w.factors)) f) ∙ stage-lead j w.factors f

    go : (b : Bool) → same_stage q (stage j w.factors) ≡ b → (b || is_in same_stage q (stages earlier ws j)) ≡ true →
        (is_in same_stage q (stages earlier ws j) ≡ true → is_in same_stage (lead (suc j) q) (stages earlier ws (suc j)) ≡ true) →
        (same_stage (lead (suc j) q) (stage (suc j) w.factors) || is_in same_stage (lead (suc j) q) (stages earlier ws (suc j))) ≡ true
    go true e k ih =
        or_left (same_stage (lead (suc j) q) (stage (suc j) w.factors)) (is_in same_stage (lead (suc j) q) (stages earlier ws (suc j)))
        (ap (same_stage (lead (suc j) q)) (sym (here (stage_equal q (stage j w.factors) e) (nat_lt j (begin w.factors)) refl)) ∙ stage_itself (lead (suc j) q))
    go false e k ih =
        or_right (same_stage (lead (suc j) q) (stage (suc j) w.factors)) (is_in same_stage (lead (suc j) q) (stages earlier ws (suc j))) (ih k)

-- past the last site all is done
pub all_done : (earlier : Stage → Stage → Bool) (n j : ℕ) → n ≤ suc j → 0 < n → (ws : List Term) → AllOf (λ w. AreBelow n w.factors) ws → (q : Stage) →
    is_in same_stage q (stages earlier ws j) ≡ true → is_in same_stage q (done ∷ []) ≡ true
all_done earlier n j h z [] b q k = absurd (false≢true k)
all_done earlier n j h z (w ∷ ws) b q k =
    go (same_stage q (stage j w.factors)) refl (sym (in-stages earlier q w ws j) ∙ k) (all_done earlier n j h z ws b.1 q)
  where
    go : (c : Bool) → same_stage q (stage j w.factors) ≡ c → (c || is_in same_stage q (stages earlier ws j)) ≡ true →
        (is_in same_stage q (stages earlier ws j) ≡ true → is_in same_stage q (done ∷ []) ≡ true) → is_in same_stage q (done ∷ []) ≡ true
    go true e l ih =
        or_left (same_stage q done) false (ap (same_stage q) (sym (stage-last n j h z w.factors b.0)) ∙ e)
    go false e l ih = ih l
