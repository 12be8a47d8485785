-- The automaton conserves charge.
use Rattle.std.proofs.Common.{◌≡◌, ℕ, zero, suc, ◌⊎◌, inl, inr, Bool, true, false, ◌&&◌, ◌||◌, ◌==◌, cond, List, [], ◌∷◌, map, refl, sym, ◌∙◌, ap, ap₂, subst, arith}
use Rattle.std.specs.Prelude.{nat_lt}
use Rattle.std.proofs.lemmas.Bool.{false≢true, eqb-true}
use Rattle.std.proofs.lemmas.Bool.Decides.{nat_tests}
use Rattle.qn_sign.specs.Sign.{is_in}
use Rattle.qn_charge.specs.declared.factor.Factor as charge
use Rattle.qn_charge.specs.Charges.{IsGroup, IsCanonical, zero_charge, sum_charge, neg_charge}
use Rattle.qn_charge.specs.Laws.{associative_charge, commutative_charge, canonical_neg, canonical_sum, canonical_zero, neg_is_inverse, zero_is_neutral}
use Rattle.qn_gauss.specs.Gaussian.{Gaussian, zero_g, one_g, add_g, mul_g}
use Rattle.qn_value.specs.Networks.{sum_below}
use Rattle.qn_gauss.proofs.Ring.{add_zero, mul_zero}
use Rattle.qn_opsum.specs.Strings.{Sites, Factor, identity, matrix, place, in_site_order, AreFrom, AreOrdered}
use Rattle.qn_auto.specs.Automaton.{Term, normal, Stage, same_stage, after, to_come, next, begin, stage, stages, transition}
use Rattle.qn_auto.specs.Automaton.Stage.{not_begun, rest, done}
use Rattle.qn_auto.specs.Flux.{HasCharges, charge_of, stage_charge, HaveFlux, HaveCharge, StandsLeft}
use Rattle.qn_opsum.proofs.NormalOrder.{ordered-sort}
use Rattle.qn_auto.proofs.Stages.{stage_test, in-stages}
use Rattle.qn_value.specs.Rows.{sum_over}
use Rattle.qn_value.proofs.RowsLemmas.{zero_mul}

-- where each summand is 0, or else P holds, the sum is 0 or P holds

pub either_below : {P : Type 0} (n : ℕ) (f : ℕ → Gaussian) → ((v : ℕ) → P ⊎ (f v ≡ zero_g)) → P ⊎ (sum_below n f ≡ zero_g)
either_below zero f h = inr refl
either_below {P = P} (suc n) f h = go (either_below n f h) (h n)
  where
    go : P ⊎ (sum_below n f ≡ zero_g) → P ⊎ (f n ≡ zero_g) → P ⊎ (add_g (sum_below n f) (f n) ≡ zero_g)
    go (inl p) _ = inl p
    go (inr e) (inl p) = inl p
    go (inr e) (inr g) = inr (ap₂ add_g e g ∙ add_zero zero_g)

pub either_product : {P Q R : Type 0} (x y : Gaussian) → P ⊎ (x ≡ zero_g) → Q ⊎ (y ≡ zero_g) → (P → Q → R) → R ⊎ (mul_g x y ≡ zero_g)
either_product x y (inr e) _ h = inr (ap (λ z. mul_g z y) e ∙ zero_mul y)
either_product x y (inl p) (inr e) h = inr (ap (mul_g x) e ∙ mul_zero x)
either_product x y (inl p) (inl q) h = inl (h p q)

pub either_sum : {P : Type 0} (x y : Gaussian) → P ⊎ (x ≡ zero_g) → P ⊎ (y ≡ zero_g) → P ⊎ (add_g x y ≡ zero_g)
either_sum x y (inl p) _ = inl p
either_sum x y (inr e) (inl p) = inl p
either_sum x y (inr e) (inr g) = inr (ap₂ add_g e g ∙ add_zero zero_g)

identity_either : (x y : ℕ) → (x ≡ y) ⊎ (identity x y ≡ zero_g)
identity_either x y = go (x == y) refl
  where
    go : (b : Bool) → (x == y) ≡ b → (x ≡ y) ⊎ (cond b one_g zero_g ≡ zero_g)
    go true e = inl (eqb-true x y e)
    go false e = inr refl

-- what stands left of site j lies on sites from j on

after_from : (i : ℕ) (fs : List Factor) → AreFrom (suc i) (after i fs)
after_from i [] = tt
after_from i (f ∷ fs) = go (nat_lt i f.site) refl (after_from i fs)
  where
    beyond : (k : ℕ) → nat_lt i k ≡ true → nat_lt k (suc i) ≡ false
    beyond k e = grind (arith, nat_tests)

    go : (b : Bool) → nat_lt i f.site ≡ b → AreFrom (suc i) (after i fs) → AreFrom (suc i) (cond b (f ∷ after i fs) (after i fs))
    go true e ih = (beyond f.site e, ih)
    go false e ih = ih

from_begin : (fs : List Factor) → AreOrdered fs → AreFrom (begin fs) fs
from_begin [] o = tt
from_begin (f ∷ fs) o = (itself f.site, o.0)
  where
    itself : (i : ℕ) → nat_lt i i ≡ false
    itself i = grind (arith, nat_tests)

-- the list of a state lies on sites from j on
abbrev pub LiesFrom : ℕ → Stage → Type 0
LiesFrom j not_begun = Unit {0}
LiesFrom j (rest fs) = AreFrom j fs
LiesFrom j done = Unit {0}

lies_to_come : (j : ℕ) (fs : List Factor) → AreFrom j fs → LiesFrom j (to_come fs)
lies_to_come j [] a = tt
lies_to_come j (f ∷ fs) a = a

stage_lies : (i : ℕ) (fs : List Factor) → LiesFrom (suc i) (stage i fs)
stage_lies i fs = go (nat_lt i (begin fs))
  where
    go : (b : Bool) → LiesFrom (suc i) (cond b not_begun (next i fs))
    go true = tt
    go false = lies_to_come (suc i) (after i fs) (after_from i fs)

pub left_lies : (earlier : Stage → Stage → Bool) (ws : List Term) (j : ℕ) (l : Stage) → StandsLeft earlier ws j l → LiesFrom j l
left_lies earlier ws zero l h = subst (LiesFrom 0) (sym h) tt
left_lies earlier [] (suc j) l h = absurd (false≢true h)
left_lies earlier (w ∷ ws) (suc j) l h = go (same_stage l (stage j w.factors)) refl (sym (in-stages earlier l w ws j) ∙ h) (left_lies earlier ws (suc j) l)
  where
    go : (b : Bool) → same_stage l (stage j w.factors) ≡ b → (b || is_in same_stage l (stages earlier ws j)) ≡ true →
        (is_in same_stage l (stages earlier ws j) ≡ true → LiesFrom (suc j) l) → LiesFrom (suc j) l
    go true e k ih = subst (LiesFrom (suc j)) (sym (stage_test.equal l (stage j w.factors) e)) (stage_lies j w.factors)
    go false e k ih = ih k

-- a commutative group: its elements are those of the type that are proper, and sums and negatives are
pub record IsAbelian {Q : Type 0} (proper : Q → Type 0) (none : Q) (add : Q → Q → Q) (neg : Q → Q) : Type 0 where
  pub none_proper : proper none
  pub sum_proper : (a b : Q) → proper (add a b)
  pub neg_proper : (a : Q) → proper (neg a)
  pub unit : (a : Q) → proper a → add a none ≡ a
  pub comm : (a b : Q) → add a b ≡ add b a
  pub assoc : (a b c : Q) → add (add a b) c ≡ add a (add b c)
  pub inverse : (a : Q) → add a (neg a) ≡ none

module _ {Q : Type 0} (proper : Q → Type 0) (none : Q) (add : Q → Q → Q) (neg : Q → Q) (group : IsAbelian proper none add neg) where
  -- the group

  left_unit : (a : Q) → proper a → add none a ≡ a
  left_unit a p = group.comm none a ∙ group.unit a p

  swap_add : (a b c : Q) → add a (add b c) ≡ add b (add a c)
  swap_add a b c = sym (group.assoc a b c) ∙ ap (λ x. add x c) (group.comm a b) ∙ group.assoc b a c

  -- - (a + b) + a = - b
  part_left : (a b : Q) → add (neg (add a b)) a ≡ neg b
  part_left a b =
      sym (group.unit (add (neg (add a b)) a) (group.sum_proper (neg (add a b)) a))
      ∙ ap (add (add (neg (add a b)) a)) (sym (group.inverse b))
      ∙ sym (group.assoc (add (neg (add a b)) a) b (neg b))
      ∙ ap (λ x. add x (neg b)) (group.assoc (neg (add a b)) a b ∙ group.comm (neg (add a b)) (add a b) ∙ group.inverse (add a b))
      ∙ left_unit (neg b) (group.neg_proper b)

  neg_none : neg none ≡ none
  neg_none = sym (left_unit (neg none) (group.neg_proper none)) ∙ group.inverse none

  module _ (value op : ℕ → ℕ → Q) (S : Sites) (charges : HasCharges add value op S) where
    abbrev total : List Factor → Q
    total fs = charge_of none add op fs

    -- the charge of the operators on site k
    abbrev total_at : List Factor → ℕ → Q
    total_at [] k = none
    total_at (f ∷ fs) k = cond (f.site == k) (add (op k f.op) (total_at fs k)) (total_at fs k)

    matrix_charge : (fs : List Factor) (k x y : ℕ) → proper (value k y) → (value k x ≡ add (total_at fs k) (value k y)) ⊎ (matrix S fs k x y ≡ zero_g)
    matrix_charge [] k x y p = go (identity_either x y)
      where
        go : (x ≡ y) ⊎ (identity x y ≡ zero_g) → (value k x ≡ add none (value k y)) ⊎ (identity x y ≡ zero_g)
        go (inl e) = inl (ap (value k) e ∙ sym (left_unit (value k y) p))
        go (inr e) = inr e
    matrix_charge (f ∷ fs) k x y p = go (f.site == k) (λ v. matrix_charge fs k v y p)
      where
        go : (b : Bool) → ((v : ℕ) → (value k v ≡ add (total_at fs k) (value k y)) ⊎ (matrix S fs k v y ≡ zero_g)) →
            (value k x ≡ add (cond b (add (op k f.op) (total_at fs k)) (total_at fs k)) (value k y)) ⊎
            (cond b (sum_below (S.dim k) (λ v. mul_g (S.table k f.op x v) (matrix S fs k v y))) (matrix S fs k x y) ≡ zero_g)
        go true ih =
            either_below (S.dim k) (λ v. mul_g (S.table k f.op x v) (matrix S fs k v y)) (λ v.
            either_product (S.table k f.op x v) (matrix S fs k v y) (charges k f.op x v) (ih v)
            (λ e g. e ∙ ap (add (op k f.op)) g ∙ sym (group.assoc (op k f.op) (total_at fs k) (value k y))))
        go false ih = ih x

    -- the operators on site j, and those after it
    total_split : (j : ℕ) (fs : List Factor) → AreFrom j fs → total fs ≡ add (total_at fs j) (total (after j fs))
    total_split j [] a = sym (group.unit none group.none_proper)
    total_split j (f ∷ fs) a = go (f.site == j) refl (nat_lt j f.site) refl (total_split j fs a.1)
      where
        here : (i : ℕ) → (i == j) ≡ true → nat_lt j i ≡ false
        here i e = grind (arith, nat_tests)

        there : (i : ℕ) → (i == j) ≡ false → nat_lt i j ≡ false → nat_lt j i ≡ true
        there i e h = grind (arith, nat_tests)

        go : (p : Bool) → (f.site == j) ≡ p → (q : Bool) → nat_lt j f.site ≡ q → total fs ≡ add (total_at fs j) (total (after j fs)) →
            add (op f.site f.op) (total fs) ≡ add (cond p (add (op j f.op) (total_at fs j)) (total_at fs j)) (total (cond q (f ∷ after j fs) (after j fs)))
        go true e true g ih = absurd (false≢true (sym (here f.site e) ∙ g))
        go true e false g ih =
            ap₂ add (ap (λ i. op i f.op) (eqb-true f.site j e)) ih ∙ sym (group.assoc (op j f.op) (total_at fs j) (total (after j fs)))
        go false e false g ih = absurd (false≢true (sym g ∙ there f.site e a.0))
        go false e true g ih = ap (add (op f.site f.op)) ih ∙ swap_add (op f.site f.op) (total_at fs j) (total (after j fs))

    module _ (flux : Q) (proper_flux : proper flux) where
      abbrev held : Stage → Q
      held = stage_charge none add neg op flux

      held_to_come : (fs : List Factor) → held (to_come fs) ≡ add flux (neg (total fs))
      held_to_come [] = sym (ap (add flux) neg_none ∙ group.unit flux proper_flux)
      held_to_come (f ∷ fs) = refl

      -- what a list carries on
      carry : (fs : List Factor) (j x y : ℕ) → AreFrom j fs → value j x ≡ add (total_at fs j) (value j y) →
          add (add flux (neg (total fs))) (value j x) ≡ add (held (next j fs)) (value j y)
      carry fs j x y a e =
          ap (add (add flux (neg (total fs)))) e
          ∙ sym (group.assoc (add flux (neg (total fs))) (total_at fs j) (value j y))
          ∙ ap (λ z. add z (value j y))
          (group.assoc flux (neg (total fs)) (total_at fs j)
          ∙ ap (add flux) (ap (λ z. add (neg z) (total_at fs j)) (total_split j fs a) ∙ part_left (total_at fs j) (total (after j fs)))
          ∙ sym (held_to_come (after j fs)))

      module _ (j : ℕ) (r : Stage) (x y : ℕ) (proper_y : proper (value j y)) where
        stay : (l : Stage) → (add (held l) (value j x) ≡ add (held r) (value j y)) ⊎ (cond (same_stage l r) (identity x y) zero_g ≡ zero_g)
        stay l = go (same_stage l r) refl
          where
            at : same_stage l r ≡ true → (x ≡ y) ⊎ (identity x y ≡ zero_g) → (add (held l) (value j x) ≡ add (held r) (value j y)) ⊎ (identity x y ≡ zero_g)
            at e (inl g) = inl (ap₂ (λ q z. add (held q) (value j z)) (stage_test.equal l r e) g)
            at e (inr g) = inr g

            go : (b : Bool) → same_stage l r ≡ b → (add (held l) (value j x) ≡ add (held r) (value j y)) ⊎ (cond b (identity x y) zero_g ≡ zero_g)
            go true e = at e (identity_either x y)
            go false e = inr refl

        go_on : (fs : List Factor) → AreFrom j fs →
            (add (add flux (neg (total fs))) (value j x) ≡ add (held r) (value j y)) ⊎ (cond (same_stage (next j fs) r) (matrix S fs j x y) zero_g ≡ zero_g)
        go_on fs a = go (same_stage (next j fs) r) refl
          where
            at : same_stage (next j fs) r ≡ true → (value j x ≡ add (total_at fs j) (value j y)) ⊎ (matrix S fs j x y ≡ zero_g) →
                (add (add flux (neg (total fs))) (value j x) ≡ add (held r) (value j y)) ⊎ (matrix S fs j x y ≡ zero_g)
            at e (inl g) = inl (carry fs j x y a g ∙ ap (λ q. add (held q) (value j y)) (stage_test.equal (next j fs) r e))
            at e (inr g) = inr g

            go : (b : Bool) → same_stage (next j fs) r ≡ b →
                (add (add flux (neg (total fs))) (value j x) ≡ add (held r) (value j y)) ⊎ (cond b (matrix S fs j x y) zero_g ≡ zero_g)
            go true e = at e (matrix_charge fs j x y proper_y)
            go false e = inr refl

        start : (w : Term) → AreOrdered w.factors → total w.factors ≡ flux →
            (add none (value j x) ≡ add (held r) (value j y)) ⊎
            (cond (begin w.factors == j && same_stage (next j w.factors) r) (mul_g w.amount (matrix S w.factors j x y)) zero_g ≡ zero_g)
        start w o e = go (begin w.factors == j) refl
          where
            nothing_held : add flux (neg (total w.factors)) ≡ none
            nothing_held = ap (λ q. add flux (neg q)) e ∙ group.inverse flux

            scaled : (b : Bool) (z : Gaussian) → cond b z zero_g ≡ zero_g → cond b (mul_g w.amount z) zero_g ≡ zero_g
            scaled true z h = ap (mul_g w.amount) h ∙ mul_zero w.amount
            scaled false z h = refl

            at : (add (add flux (neg (total w.factors))) (value j x) ≡ add (held r) (value j y)) ⊎ (cond (same_stage (next j w.factors) r) (matrix S w.factors j x y) zero_g ≡ zero_g) →
                (add none (value j x) ≡ add (held r) (value j y)) ⊎ (cond (same_stage (next j w.factors) r) (mul_g w.amount (matrix S w.factors j x y)) zero_g ≡ zero_g)
            at (inl g) = inl (ap (λ q. add q (value j x)) (sym nothing_held) ∙ g)
            at (inr g) = inr (scaled (same_stage (next j w.factors) r) (matrix S w.factors j x y) g)

            go : (b : Bool) → (begin w.factors == j) ≡ b → (add none (value j x) ≡ add (held r) (value j y)) ⊎
                (cond (b && same_stage (next j w.factors) r) (mul_g w.amount (matrix S w.factors j x y)) zero_g ≡ zero_g)
            go true g = at (go_on w.factors (subst (λ i. AreFrom i w.factors) (eqb-true (begin w.factors) j g) (from_begin w.factors o)))
            go false g = inr refl

        starts : (ws : List Term) → HaveFlux none add op flux ws →
            (add none (value j x) ≡ add (held r) (value j y)) ⊎
            (sum_over ws (λ w. cond (begin w.factors == j && same_stage (next j w.factors) r) (mul_g w.amount (matrix S w.factors j x y)) zero_g) ≡ zero_g)
        starts [] h = inr refl
        starts (w ∷ ws) h = either_sum _ _ (start w h.0 h.1) (starts ws h.2)

        pub flux_law : (ws : List Term) → HaveFlux none add op flux ws → (l : Stage) → LiesFrom j l →
            (add (held l) (value j x) ≡ add (held r) (value j y)) ⊎ (transition S ws j l r x y ≡ zero_g)
        flux_law ws h not_begun a = either_sum _ _ (stay not_begun) (starts ws h)
        flux_law ws h (rest fs) a = go_on fs a
        flux_law ws h done a = stay done

  -- the charge of a term does not depend on its order

  charge_place : (op : ℕ → ℕ → Q) (f : Factor) (gs : List Factor) → charge_of none add op (place f gs) ≡ charge_of none add op (f ∷ gs)
  charge_place op f [] = refl
  charge_place op f (g ∷ gs) = go (nat_lt g.site f.site) (charge_place op f gs)
    where
      go : (b : Bool) → charge_of none add op (place f gs) ≡ charge_of none add op (f ∷ gs) →
          charge_of none add op (cond b (g ∷ place f gs) (f ∷ g ∷ gs)) ≡ charge_of none add op (f ∷ g ∷ gs)
      go true ih = ap (add (op g.site g.op)) ih ∙ swap_add (op g.site g.op) (op f.site f.op) (charge_of none add op gs)
      go false ih = refl

  pub charge_sort : (op : ℕ → ℕ → Q) (fs : List Factor) → charge_of none add op (in_site_order fs) ≡ charge_of none add op fs
  charge_sort op [] = refl
  charge_sort op (f ∷ fs) = charge_place op f (in_site_order fs) ∙ ap (add (op f.site f.op)) (charge_sort op fs)

  pub normal_flux : (op : ℕ → ℕ → Q) (S : Sites) (flux : Q) (ws : List Term) → HaveCharge none add op flux ws → HaveFlux none add op flux (map (normal S) ws)
  normal_flux op S flux [] h = tt
  normal_flux op S flux (w ∷ ws) h = (ordered-sort w.factors, charge_sort op w.factors ∙ h.0, normal_flux op S flux ws h.1)

-- charges are a group
pub charges_form_group : (fs : List charge.Factor) → IsGroup fs → IsAbelian (IsCanonical fs) (zero_charge fs) (sum_charge fs) (neg_charge fs)
charges_form_group fs h = record {
  none_proper = canonical_zero fs h;
  sum_proper = λ a b. canonical_sum fs a b h;
  neg_proper = λ a. canonical_neg fs a h;
  unit = λ a c. commutative_charge fs a (zero_charge fs) ∙ zero_is_neutral fs a c;
  comm = λ a b. commutative_charge fs a b;
  assoc = λ a b c. associative_charge fs a b c h;
  inverse = λ a. commutative_charge fs a (neg_charge fs a) ∙ neg_is_inverse fs a h;
}
