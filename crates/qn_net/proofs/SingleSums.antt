-- Sums of which one summand counts.
use Rattle.std.proofs.Common.{◌≡◌, ◌≤◌, ℕ, zero, suc, ◌*◌, ℤ, Bool, true, false, ◌&&◌, ◌||◌, cond, List, [], ◌∷◌, refl, sym, ◌∙◌, ap, subst, map, ◌⊎◌, inl, inr, int_eq, eq-eqb, arith}
use Rattle.std.proofs.lemmas.Bool.{or_left, or_right, false≢true}
use Rattle.qn_sign.specs.Sign.{is_in, IsDistinct}
use Rattle.qn_value.specs.Networks.{End, Bond, Assignment, assign, in_end, out_end, labels, values, at_values}
use Rattle.qn_value.specs.Magnitudes.{total, IsAt}
use Rattle.qn_value.proofs.Sums.{label_test, Meets, assign_both}
use Rattle.qn_value.proofs.MagnitudeLemmas.{total_zero}
use Rattle.qn_value.proofs.MagnitudeLemmas.{below_one}

-- the summand counts only at the values that k gives to the bonds; both ends of each bond have one value, and P holds whatever the bonds' values
single_meet : (P : Assignment → Type 0) (bs : List Bond) (f : Assignment → ℕ) (k : Assignment) (bound : ℕ) → IsDistinct int_eq (labels bs) →
    ((c : Assignment) → P c → Meets bs c → f c ≤ bound) → ((c : Assignment) → P c → Meets bs c → (IsAt k bs c → ⊥) → f c ≡ 0) →
    ((b : Bond) → is_in int_eq b.label (labels bs) ≡ true → (c : Assignment) (v : ℕ) → P c → P (assign c b.label v)) → (a : Assignment) → P a → total bs f a ≤ bound
single_meet P [] f k bound d h z stable a p = h a p tt
single_meet P (b ∷ bs) f k bound d h z stable a p =
    below_one b.dim (k (in_end b)) bound (λ v. total bs f (assign a b.label v))
    (λ v. single_meet (λ c. P c × (c (in_end b) ≡ c (out_end b))) bs f k bound d.1
    (λ c q m. h c q.0 (q.1, m)) (λ c q m n. z c q.0 (q.1, m) (λ at. n at.1))
    (λ g i c u q. (later g i c u q.0, ap (cond (int_eq b.label g.label) u) q.1))
    (assign a b.label v) (first v, assign_both b a v))
    (λ v e. total_zero (λ c. P c × (c (in_end b) ≡ c (out_end b)) × (c (in_end b) ≡ v)) bs f
    (λ c q m. z c q.0 (q.1, m) (λ at. false≢true (sym e ∙ eq-eqb v (k (in_end b)) (sym q.2 ∙ at.0))))
    (λ g i c u q. (later g i c u q.0, ap (cond (int_eq b.label g.label) u) q.1, stays g i (int_eq b.label g.label) refl c u ∙ q.2))
    (assign a b.label v) (first v, assign_both b a v, ap (λ t. cond t v (a (in_end b))) (label_test.itself b.label)))
  where
    first : (v : ℕ) → P (assign a b.label v)
    first v = stable b (or_left (int_eq b.label b.label) (is_in int_eq b.label (labels bs)) (label_test.itself b.label)) a v p

    later : (g : Bond) → is_in int_eq g.label (labels bs) ≡ true → (c : Assignment) (u : ℕ) → P c → P (assign c g.label u)
    later g i c u q = stable g (or_right (int_eq g.label b.label) (is_in int_eq g.label (labels bs)) i) c u q

    stays : (g : Bond) → is_in int_eq g.label (labels bs) ≡ true → (t : Bool) → int_eq b.label g.label ≡ t → (c : Assignment) (u : ℕ) → cond t u (c (in_end b)) ≡ c (in_end b)
    stays g i false e c u = refl
    stays g i true e c u = absurd (false≢true (sym d.0 ∙ subst (λ l. is_in int_eq l (labels bs) ≡ true) (sym (label_test.equal b.label g.label e)) i))

-- the values of some ends, by their lines
abbrev pub inward_end : End → End
inward_end e = record { label = e.label; inward = true }

pub at_line : (c : Assignment) (es : List End) (l : ℤ) → c (record { label = l; inward = true }) ≡ c (record { label = l; inward = false }) → is_in int_eq l (map (λ (e : End). e.label) es) ≡ true →
    at_values (map inward_end es) (values es c) (record { label = l; inward = true }) ≡ c (record { label = l; inward = true })
at_line c [] l m i = absurd (false≢true i)
at_line c (x ∷ es) l m i = go (int_eq l x.label) refl i (at_line c es l m)
  where
    value : (b : Bool) → x.inward ≡ b → l ≡ x.label → c x ≡ c (record { label = l; inward = true })
    value true e f = λ i. c (record { label = sym f i; inward = e i })
    value false e f = (λ i. c (record { label = sym f i; inward = e i })) ∙ sym m

    go : (b : Bool) → int_eq l x.label ≡ b → (b || is_in int_eq l (map (λ (e : End). e.label) es)) ≡ true →
        (is_in int_eq l (map (λ (e : End). e.label) es) ≡ true → at_values (map inward_end es) (values es c) (record { label = l; inward = true }) ≡ c (record { label = l; inward = true })) →
        cond (b && true) (c x) (at_values (map inward_end es) (values es c) (record { label = l; inward = true })) ≡ c (record { label = l; inward = true })
    go true e j ih = value x.inward refl (label_test.equal l x.label e)
    go false e j ih = ih j

-- the assignment is off the bonds that of a
abbrev pub AgreesOff : List Bond → Assignment → Assignment → Type 0
AgreesOff bs a c = (e : End) → is_in int_eq e.label (labels bs) ≡ false → c e ≡ a e

-- a factor that is at most 1, and counts only where some ends on all bonds have given values
module _ (f g : Assignment → ℕ) (bs : List Bond) (d : IsDistinct int_eq (labels bs)) (es : List End) (us : List ℕ) (bound : ℕ) (a : Assignment)
    (covers : (l : ℤ) → is_in int_eq l (labels bs) ≡ true → is_in int_eq l (map (λ (e : End). e.label) es) ≡ true)
    (one : (c : Assignment) → f c ≤ 1) (small : (c : Assignment) → g c ≤ bound)
    (counts : (c : Assignment) → AgreesOff bs a c → (f c ≡ 0) ⊎ (values es c ≡ us)) where
  at_bonds : (cs : List Bond) → ((l : ℤ) → is_in int_eq l (labels cs) ≡ true → is_in int_eq l (map (λ (e : End). e.label) es) ≡ true) → (c : Assignment) → Meets cs c → values es c ≡ us →
      IsAt (at_values (map inward_end es) us) cs c
  at_bonds [] k c m e = tt
  at_bonds (b ∷ cs) k c m e = (
    sym (at_line c es b.label m.0 (k b.label (or_left (int_eq b.label b.label) (is_in int_eq b.label (labels cs)) (label_test.itself b.label))))
        ∙ ap (λ vs. at_values (map inward_end es) vs (in_end b)) e,
    at_bonds cs (λ l i. k l (or_right (int_eq l b.label) (is_in int_eq l (labels cs)) i)) c m.1 e,
  )

  pub sum_within : total bs (λ c. f c * g c) a ≤ bound
  sum_within =
      single_meet (AgreesOff bs a) bs (λ c. f c * g c) (at_values (map inward_end es) us) bound d
      (λ c p m. within (f c) (g c) (one c) (small c))
      (λ c p m off. none (g c) (counts c p) (λ e. off (at_bonds bs covers c m e)))
      (λ b i c v p e n. apart b i e n (int_eq e.label b.label) refl v (c e) ∙ p e n) a (λ e n. refl)
    where
      within : (m n : ℕ) → m ≤ 1 → n ≤ bound → m * n ≤ bound
      within zero n h k = omega arith
      within (suc m) n h k = let e : m ≡ 0 = omega (arith, h) in subst (λ j. suc j * n ≤ bound) (sym e) (omega (arith, k))

      none : {m : ℕ} (n : ℕ) {A : Type 0} → (m ≡ 0) ⊎ A → (A → ⊥) → m * n ≡ 0
      none n (inl e) h = ap (λ k. k * n) e ∙ omega arith
      none n (inr x) h = absurd (h x)

      apart : (b : Bond) → is_in int_eq b.label (labels bs) ≡ true → (e : End) → is_in int_eq e.label (labels bs) ≡ false → (t : Bool) → int_eq e.label b.label ≡ t → (v x : ℕ) → cond t v x ≡ x
      apart b i e n false q v x = refl
      apart b i e n true q v x = absurd (false≢true (sym n ∙ subst (λ l. is_in int_eq l (labels bs) ≡ true) (sym (label_test.equal e.label b.label q)) i))
