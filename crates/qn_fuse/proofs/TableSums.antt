-- Sums over the lines of some legs, of which one summand counts.
use Rattle.std.proofs.Common.{◌≡◌, ℕ, ◌==◌, ℤ, Bool, true, false, ◌&&◌, cond, List, [], ◌∷◌, refl, sym, ◌∙◌, ap, eqb-true, eq-eqb, int_eq}
use Rattle.std.proofs.lemmas.Bool.{or_parts, false≢true}
use mathlib.Core.Path.{fun_ext}
use Rattle.qn_sign.specs.Sign.{is_in, IsDistinct}
use Rattle.qn_gauss.specs.Gaussian.{Gaussian, zero_g}
use Rattle.qn_value.specs.Networks.{End, Assignment, assign, sum_below, sums, values, labels}
use Rattle.qn_value.specs.Tensors.{same_values}
use Rattle.qn_value.specs.Rows.{when, AreBelow}
use Rattle.qn_fuse.specs.Contractions.{bonds_over}
use Rattle.qn_value.proofs.Sums.{label_test, Meets, sum_below-zero}
use Rattle.qn_value.proofs.RowsLemmas.{sum_below-one}

pub turned_test : (u v w : ℕ) (b : Bool) → (u == v) ≡ b → w ≡ u → (v == w) ≡ b
turned_test u v w true g q = eq-eqb v w (sym (q ∙ eqb-true u v g))
turned_test u v w false g q = differ (v == w) refl
  where
    differ : (b : Bool) → (v == w) ≡ b → b ≡ false
    differ false p = refl
    differ true p = absurd (false≢true (sym g ∙ eq-eqb u v (sym (eqb-true v w p ∙ q))))

module _ (dims : ℤ → ℕ) where
  -- the two assignments differ at most on the lines of these legs
  abbrev pub Off : List End → Assignment → Assignment → Type 0
  Off es a c = (x : End) → is_in int_eq x.label (labels (bonds_over dims es)) ≡ false → c x ≡ a x

  pub off_next : (e : End) (es : List End) (a c : Assignment) (u : ℕ) → Off es (assign a e.label u) c → Off (e ∷ es) a c
  off_next e es a c u o x i =
      let p = or_parts (int_eq x.label e.label) (is_in int_eq x.label (labels (bonds_over dims es))) i in
      o x p.1 ∙ ap (λ b. cond b u (a x)) p.0

  pub at_end : (l : ℤ) (es : List End) (a c : Assignment) (u : ℕ) → is_in int_eq l (labels (bonds_over dims es)) ≡ false → Off es (assign a l u) c → (i : Bool) →
      c (record { label = l; inward = i }) ≡ u
  at_end l es a c u d o i = o (record { label = l; inward = i }) d ∙ ap (λ b. cond b u (a (record { label = l; inward = i }))) (label_test.itself l)

  pub nothing : (es : List End) (f : Assignment → Gaussian) (a : Assignment) → IsDistinct int_eq (labels (bonds_over dims es)) →
      ((c : Assignment) → Off es a c → Meets (bonds_over dims es) c → f c ≡ zero_g) → sums (bonds_over dims es) f a ≡ zero_g
  nothing [] f a d h = h a (λ x i. refl) tt
  nothing (e ∷ es) f a d h =
      ap (sum_below (dims e.label)) (fun_ext (λ u.
      nothing es f (assign a e.label u) d.1
      (λ c o m. h c (off_next e es a c u o) (at_end e.label es a c u d.0 o true ∙ sym (at_end e.label es a c u d.0 o false), m))))
      ∙ sum_below-zero (dims e.label)

  pub at_one : (es : List End) (f : Assignment → Gaussian) (a : Assignment) (k : List ℕ) (x : Gaussian) → IsDistinct int_eq (labels (bonds_over dims es)) → AreBelow dims es k →
      ((c : Assignment) → Off es a c → Meets (bonds_over dims es) c → f c ≡ when (same_values k (values es c)) x) → sums (bonds_over dims es) f a ≡ x
  at_one [] f a [] x d r h = h a (λ x i. refl) tt
  at_one [] f a (v ∷ k) x d r h = absurd r
  at_one (e ∷ es) f a [] x d r h = absurd r
  at_one (e ∷ es) f a (v ∷ k) x d r h =
      ap (sum_below (dims e.label)) (fun_ext (λ u. go u (u == v) refl (at_one es f (assign a e.label u) k x d.1 r.1) (nothing es f (assign a e.label u) d.1)))
      ∙ sum_below-one (dims e.label) v x r.0
    where
      at_u : (u : ℕ) (b : Bool) → (u == v) ≡ b → (c : Assignment) → Off es (assign a e.label u) c → Meets (bonds_over dims es) c →
          f c ≡ when (b && same_values k (values es c)) x
      at_u u b g c o m =
          h c (off_next e es a c u o) (at_end e.label es a c u d.0 o true ∙ sym (at_end e.label es a c u d.0 o false), m)
          ∙ ap (λ p. when (p && same_values k (values es c)) x) (turned_test u v (c e) b g (at_end e.label es a c u d.0 o e.inward))

      go : (u : ℕ) (b : Bool) → (u == v) ≡ b →
          (((c : Assignment) → Off es (assign a e.label u) c → Meets (bonds_over dims es) c → f c ≡ when (same_values k (values es c)) x) →
          sums (bonds_over dims es) f (assign a e.label u) ≡ x) →
          (((c : Assignment) → Off es (assign a e.label u) c → Meets (bonds_over dims es) c → f c ≡ zero_g) →
          sums (bonds_over dims es) f (assign a e.label u) ≡ zero_g) →
          sums (bonds_over dims es) f (assign a e.label u) ≡ when b x
      go u true g one none = one (at_u u true g)
      go u false g one none = none (at_u u false g)
