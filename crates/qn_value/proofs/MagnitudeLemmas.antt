-- Sums of magnitudes.
use Rattle.std.proofs.Common.{◌≡◌, ◌≤◌, ℕ, zero, suc, ◌+◌, ◌*◌, ◌==◌, ℤ, Bool, true, false, cond, None, List, [], ◌∷◌, ◌++◌, refl, sym, ◌∙◌, ap, ap₂, subst, filter, ◌⊎◌, inl, inr, eqb-true, eq-eqb, arith, int_eq}
use Rattle.std.proofs.lemmas.Bool.{or_left, or_right, false≢true}
use Rattle.qn_sign.specs.Sign.{is_in, IsDistinct}
use Rattle.std.proofs.Math.Nat.{mul-le-mul_left}
use Rattle.qn_gauss.specs.Gaussian.{Gaussian, zero_g, one_g, add_g, mul_g, signed, mag}
use Rattle.qn_gauss.proofs.Size.{mag-mul, mag-add}
use Rattle.qn_charge.specs.declared.factor.Factor.{Factor}
use Rattle.qn_charge.specs.Charges.{IsGroup, sum_charge}
use Rattle.qn_index.specs.Legs.{LegValue}
use Rattle.qn_value.specs.Networks.{End, Node, Bond, Assignment, Parities, assign, in_end, out_end, same_end, word, labels, values, sign, product, sum_below, sums, flat, IsNetwork}
use Rattle.qn_value.specs.Fluxes.{Charges, net_at, AllConserve, sum_flux}
use Rattle.qn_value.specs.Magnitudes.{total_below, total, mag_at, magnitudes, passing_offset, place_or, first_passing, IsAt}
use Rattle.qn_value.proofs.Sums.{label_test, Meets, assign_both}
use Rattle.qn_value.proofs.FluxLemmas.{net-append, net-depends, open_from_word, open_label}
use Rattle.qn_gauss.proofs.Signs.{mag_signed}
pub use Rattle.qn_gauss.proofs.Signs.{mag_signed}

-- sums of zeros

pub below_zero : (n : ℕ) (f : ℕ → ℕ) → ((v : ℕ) → f v ≡ 0) → total_below n f ≡ 0
below_zero zero f h = refl
below_zero (suc n) f h = ap₂ ◌+◌ (below_zero n f h) (h n)

-- the summand is 0 wherever the bonds meet and the open ends are those of a
pub total_zero : (P : Assignment → Type 0) (bs : List Bond) (f : Assignment → ℕ) → ((c : Assignment) → P c → Meets bs c → f c ≡ 0) →
    ((b : Bond) → is_in int_eq b.label (labels bs) ≡ true → (c : Assignment) (v : ℕ) → P c → P (assign c b.label v)) → (a : Assignment) → P a → total bs f a ≡ 0
total_zero P [] f h stable a p = h a p tt
total_zero P (b ∷ bs) f h stable a p =
    below_zero b.dim (λ v. total bs f (assign a b.label v)) (λ v.
    total_zero (λ c. P c × (c (in_end b) ≡ c (out_end b))) bs f (λ c q m. h c q.0 (q.1, m))
    (λ d i c u q. (stable d (or_right (int_eq d.label b.label) (is_in int_eq d.label (labels bs)) i) c u q.0, ap (cond (int_eq b.label d.label) u) q.1))
    (assign a b.label v) (stable b (or_left (int_eq b.label b.label) (is_in int_eq b.label (labels bs)) (label_test.itself b.label)) a v p, assign_both b a v))

pub mag_zero : mag zero_g ≡ 0
unfolding zero_g
mag_zero = refl

left_zero : (m n : ℕ) → m ≡ 0 → m * n ≡ 0
left_zero m n e = ap (λ k. k * n) e ∙ none
  where
    none : 0 * n ≡ 0
    none = omega arith

right_zero : (m n : ℕ) → n ≡ 0 → m * n ≡ 0
right_zero m n e = ap (λ k. m * k) e ∙ none
  where
    none : m * 0 ≡ 0
    none = omega arith

module _ (fs : List Factor) (group : IsGroup fs) (charge : Charges) where
  word_magnitude : (ns : List Node) (qs : List (List ℤ)) → AllConserve fs charge ns qs → (c : Assignment) →
      (net_at fs charge (word ns) c ≡ sum_flux fs qs) ⊎ (magnitudes ns c ≡ 0)
  word_magnitude [] [] h c = inl refl
  word_magnitude [] (q ∷ qs) h c = absurd h
  word_magnitude (n ∷ ns) [] h c = absurd h
  word_magnitude (n ∷ ns) (q ∷ qs) h c = go (h.0 c) (word_magnitude ns qs h.1 c)
    where
      go : (net_at fs charge n.ends c ≡ q) ⊎ (n.entry (values n.ends c) ≡ zero_g) →
          (net_at fs charge (word ns) c ≡ sum_flux fs qs) ⊎ (magnitudes ns c ≡ 0) →
          (net_at fs charge (n.ends ++ word ns) c ≡ sum_charge fs q (sum_flux fs qs)) ⊎ (mag_at n c * magnitudes ns c ≡ 0)
      go (inr z) _ = inr (left_zero (mag_at n c) (magnitudes ns c) (ap mag z ∙ mag_zero))
      go (inl e) (inr z) = inr (right_zero (mag_at n c) (magnitudes ns c) z)
      go (inl e) (inl f) = inl (net-append fs group charge n.ends (word ns) c ∙ ap₂ (sum_charge fs) e f)

  pub silent : (ns : List Node) (qs : List (List ℤ)) (bonds : List Bond) (opens : List End) (a : Assignment) →
      AllConserve fs charge ns qs → IsNetwork ns bonds opens → (net_at fs charge opens a ≡ sum_flux fs qs → ⊥) → total bonds (magnitudes ns) a ≡ 0
  silent ns qs bonds opens a h network off =
      total_zero (λ c. net_at fs charge opens c ≡ net_at fs charge opens a) bonds (magnitudes ns)
      (λ c e m. at c e m (word_magnitude ns qs h c))
      (λ b i c v e. steady b i c v ∙ e) a refl
    where
      at : (c : Assignment) → net_at fs charge opens c ≡ net_at fs charge opens a → Meets bonds c →
          (net_at fs charge (word ns) c ≡ sum_flux fs qs) ⊎ (magnitudes ns c ≡ 0) → magnitudes ns c ≡ 0
      at c e m (inr z) = z
      at c e m (inl f) = absurd (off (sym e ∙ open_from_word fs group charge ns qs bonds opens network c m f))

      -- the open ends have one net charge, whatever the bonds
      steady : (b : Bond) → is_in int_eq b.label (labels bonds) ≡ true → (c : Assignment) (v : ℕ) → net_at fs charge opens (assign c b.label v) ≡ net_at fs charge opens c
      steady b i c v = net-depends fs group charge opens (assign c b.label v) c (λ e k. same e k (int_eq e.label b.label) refl)
        where
          same : (e : End) → is_in same_end e opens ≡ true → (p : Bool) → int_eq e.label b.label ≡ p → cond p v (c e) ≡ c e
          same e k false f = refl
          same e k true f =
              absurd (false≢true (sym (open_label fs group charge ns bonds opens network e k) ∙ subst (λ l. is_in int_eq l (labels bonds) ≡ true) (sym (label_test.equal e.label b.label f)) i))

-- leaving out tuples in whose blocks nothing passes

pub first_kept : (size : List ℕ → ℕ) (ls : List LegValue) (keep : List ℕ → Bool) (ts : List (List ℕ)) →
    ((t : List ℕ) → keep t ≡ false → passing_offset size ls t ≡ None) → first_passing size ls ts ≡ first_passing size ls (filter keep ts)
first_kept size ls keep [] h = refl
first_kept size ls keep (t ∷ ts) h = go (keep t) refl (first_kept size ls keep ts h)
  where
    go : (b : Bool) → keep t ≡ b → first_passing size ls ts ≡ first_passing size ls (filter keep ts) →
        place_or t (passing_offset size ls t) (first_passing size ls ts) ≡ first_passing size ls (cond b (t ∷ filter keep ts) (filter keep ts))
    go true e ih = ap (place_or t (passing_offset size ls t)) ih
    go false e ih = ap (λ o. place_or t o (first_passing size ls ts)) (h t e) ∙ ih

-- a sum of which one summand counts

-- numbers below n, of which those that are not k give 0
pub below_one : (n k bound : ℕ) (f : ℕ → ℕ) → ((v : ℕ) → f v ≤ bound) → ((v : ℕ) → (v == k) ≡ false → f v ≡ 0) → total_below n f ≤ bound
below_one zero k bound f h z = omega arith
below_one (suc n) k bound f h z = go (n == k) refl (below_one n k bound f h z)
  where
    past : (m : ℕ) → m ≤ k → total_below m f ≡ 0
    past zero l = refl
    past (suc m) l = ap₂ ◌+◌ (past m (omega arith)) (z m (apart (m == k) refl))
      where
        apart : (b : Bool) → (m == k) ≡ b → b ≡ false
        apart false e = refl
        apart true e = let f : m ≡ k = eqb-true m k e in absurd (omega arith)

    go : (b : Bool) → (n == k) ≡ b → total_below n f ≤ bound → total_below n f + f n ≤ bound
    go true e ih =
        let g : n ≡ k = eqb-true n k e in
        let p : total_below n f ≡ 0 = past n (omega arith) in
        let q : f n ≤ bound = h n in
        omega arith
    go false e ih =
        let p : f n ≡ 0 = z n e in
        omega arith

pub single : (bs : List Bond) (f : Assignment → ℕ) (k : Assignment) (bound : ℕ) (a : Assignment) → IsDistinct int_eq (labels bs) →
    ((c : Assignment) → f c ≤ bound) → ((c : Assignment) → (IsAt k bs c → ⊥) → f c ≡ 0) → total bs f a ≤ bound
single [] f k bound a d h z = h a
single (b ∷ bs) f k bound a d h z =
    below_one b.dim (k (in_end b)) bound (λ v. total bs f (assign a b.label v))
    (λ v. single bs f k bound (assign a b.label v) d.1 h (λ c n. z c (λ at. n at.1)))
    (λ v e. total_zero (λ c. c (in_end b) ≡ v) bs f
    (λ c p m. z c (λ at. false≢true (sym e ∙ eq-eqb v (k (in_end b)) (sym p ∙ at.0))))
    (λ g i c u p. stays g i (int_eq b.label g.label) refl c u ∙ p)
    (assign a b.label v) (ap (λ p. cond p v (a (in_end b))) (label_test.itself b.label)))
  where
    stays : (g : Bond) → is_in int_eq g.label (labels bs) ≡ true → (t : Bool) → int_eq b.label g.label ≡ t → (c : Assignment) (u : ℕ) → cond t u (c (in_end b)) ≡ c (in_end b)
    stays g i false e c u = refl
    stays g i true e c u = absurd (false≢true (sym d.0 ∙ subst (λ l. is_in int_eq l (labels bs) ≡ true) (sym (label_test.equal b.label g.label e)) i))

-- the value is no larger than the sum of magnitudes

mag_one : mag one_g ≡ 1
unfolding one_g
mag_one = refl

pub mag_product : (ns : List Node) (c : Assignment) → mag (product ns c) ≤ magnitudes ns c
mag_product [] c = let e : mag one_g ≡ 1 = mag_one in omega arith
mag_product (n ∷ ns) c =
    let x : Gaussian = n.entry (values n.ends c) in
    let first : mag (mul_g x (product ns c)) ≤ mag x * mag (product ns c) = mag-mul x (product ns c) in
    let second : mag x * mag (product ns c) ≤ mag x * magnitudes ns c = mul-le-mul_left (mag x) (mag_product ns c) in
    omega (arith, first, second)

mag_below : (n : ℕ) (f : ℕ → Gaussian) (g : ℕ → ℕ) → ((v : ℕ) → mag (f v) ≤ g v) → mag (sum_below n f) ≤ total_below n g
mag_below zero f g h = let e : mag zero_g ≡ 0 = mag_zero in omega arith
mag_below (suc n) f g h =
    let one : mag (add_g (sum_below n f) (f n)) ≤ mag (sum_below n f) + mag (f n) = mag-add (sum_below n f) (f n) in
    omega (arith, one, mag_below n f g h, h n)

mag_sums : (bs : List Bond) (f : Assignment → Gaussian) (g : Assignment → ℕ) → ((c : Assignment) → mag (f c) ≤ g c) → (a : Assignment) → mag (sums bs f a) ≤ total bs g a
mag_sums [] f g h a = h a
mag_sums (b ∷ bs) f g h a = mag_below b.dim (λ v. sums bs f (assign a b.label v)) (λ v. total bs g (assign a b.label v)) (λ v. mag_sums bs f g h (assign a b.label v))

pub value_within : (par : Parities) (ns : List Node) (bonds : List Bond) (opens : List End) (a : Assignment) → mag (flat par ns bonds opens a) ≤ total bonds (magnitudes ns) a
value_within par ns bonds opens a =
    mag_sums bonds (λ c. signed (sign par ns bonds opens c) (product ns c)) (magnitudes ns)
    (λ c. subst (λ m. m ≤ magnitudes ns c) (sym (mag_signed (sign par ns bonds opens c) (product ns c))) (mag_product ns c)) a
