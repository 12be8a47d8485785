use Rattle.std.proofs.Common.{◌≡◌, ℕ, zero, suc, ◌<◌, ◌≤◌, ◌==◌, ℤ, Bool, true, false, ◌&&◌, ◌||◌, cond, List, [], ◌∷◌, ◌++◌, refl, sym, ◌∙◌, ap, ap₂, subst, length, ◌⊎◌, inl, inr, append-nil, eqb-true, eq-eqb, ne_eqb, arith, int_eq}
use mathlib.Core.Path.{fun_ext}
use Rattle.std.proofs.lemmas.Bool.{and_parts, or_parts, or_from, or_left, or_right, or_cases, false≢true}
use Rattle.qn_sign.specs.Sign.{is_in, IsDistinct, Perm}
use Rattle.qn_gauss.specs.Gaussian.{Gaussian, zero_g, add_g, mul_g, signed}
use Rattle.qn_value.specs.Networks.{End, Node, Bond, Assignment, assign, in_end, out_end, sum_below, sums, same_end, word, pairs_of, goal, sign, values, product, at_values, contract, IsNetwork, labels}
use Rattle.qn_value.specs.Tensors.{Row, same_values, entry_at, IsNew, AreDistinct}
use Rattle.qn_value.specs.Rows.{sum_over, when, meet_on, joined, meet, AreBelow, AllBelow, HaveDims}
use Rattle.qn_gauss.proofs.Ring.{add_zero, mul_one, mul_zero, mul_add}
use Rattle.qn_sign.proofs.Order.{apart_by, is_in-append, is_in-perm, distinct-perm, distinct_first, distinct_second, distinct_parts_back}
use Rattle.qn_value.proofs.Sums.{label_test, sum_below-add, sum_below-zero, DependsOn}
use Rattle.qn_value.proofs.NetLaws.{end_test, signed-zero, sign-agree, ends-labels, at_values-values, values-agree, labels_distinct}
use Rattle.qn_value.proofs.Values.{same_values-equal}
pub use Rattle.qn_gauss.proofs.Ring.{zero_add}
pub use Rattle.qn_gauss.proofs.Ring.{zero_mul}
pub use Rattle.qn_gauss.proofs.Ring.{mul_add_right}
pub use Rattle.qn_gauss.proofs.Signs.{signed-add}
use Rattle.qn_facts.proofs.Booleans.{same_tests}

-- sums over lists

pub over-congr : {X : Type 0} (xs : List X) (f g : X → Gaussian) → ((x : X) → f x ≡ g x) → sum_over xs f ≡ sum_over xs g
over-congr xs f g h = ap (sum_over xs) (fun_ext h)

pub over-zero : {X : Type 0} (xs : List X) → sum_over xs (λ x. zero_g) ≡ zero_g
over-zero [] = refl
over-zero (x ∷ xs) = ap (add_g zero_g) (over-zero xs) ∙ add_zero zero_g

pub over-signed : {X : Type 0} (b : Bool) (xs : List X) (f : X → Gaussian) → signed b (sum_over xs f) ≡ sum_over xs (λ x. signed b (f x))
over-signed b [] f = signed-zero b
over-signed b (x ∷ xs) f = signed-add b (f x) (sum_over xs f) ∙ ap (add_g (signed b (f x))) (over-signed b xs f)

pub over-mul : {X : Type 0} (xs : List X) (f : X → Gaussian) (c : Gaussian) → mul_g (sum_over xs f) c ≡ sum_over xs (λ x. mul_g (f x) c)
over-mul [] f c = zero_mul c
over-mul (x ∷ xs) f c = mul_add_right (f x) (sum_over xs f) c ∙ ap (add_g (mul_g (f x) c)) (over-mul xs f c)

pub mul-over : {X : Type 0} (xs : List X) (f : X → Gaussian) (c : Gaussian) → mul_g c (sum_over xs f) ≡ sum_over xs (λ x. mul_g c (f x))
mul-over [] f c = mul_zero c
mul-over (x ∷ xs) f c = mul_add c (f x) (sum_over xs f) ∙ ap (add_g (mul_g c (f x))) (mul-over xs f c)

pub sums-zero : (bs : List Bond) (a : Assignment) → sums bs (λ c. zero_g) a ≡ zero_g
sums-zero [] a = refl
sums-zero (b ∷ bs) a = ap (sum_below b.dim) (fun_ext (λ v. sums-zero bs (assign a b.label v))) ∙ sum_below-zero b.dim

sums-add : (bs : List Bond) (f g : Assignment → Gaussian) (a : Assignment) → sums bs (λ c. add_g (f c) (g c)) a ≡ add_g (sums bs f a) (sums bs g a)
sums-add [] f g a = refl
sums-add (b ∷ bs) f g a =
    ap (sum_below b.dim) (fun_ext (λ v. sums-add bs f g (assign a b.label v)))
    ∙ sum_below-add b.dim (λ v. sums bs f (assign a b.label v)) (λ v. sums bs g (assign a b.label v))

pub sums-over : {X : Type 0} (xs : List X) (bs : List Bond) (f : X → Assignment → Gaussian) (a : Assignment) →
    sums bs (λ c. sum_over xs (λ x. f x c)) a ≡ sum_over xs (λ x. sums bs (f x) a)
sums-over [] bs f a = sums-zero bs a
sums-over (x ∷ xs) bs f a = sums-add bs (f x) (λ c. sum_over xs (λ y. f y c)) a ∙ ap (add_g (sums bs (f x) a)) (sums-over xs bs f a)

-- an entry is a sum over the rows

pub same_values-itself : (xs : List ℕ) → same_values xs xs ≡ true
same_values-itself [] = refl
same_values-itself (x ∷ xs) = ap₂ ◌&&◌ (eq-eqb x x refl) (same_values-itself xs)

none_meet : (r : Row) (ss : List Row) → IsNew r ss → sum_over ss (λ s. when (same_values s.values r.values) s.entry) ≡ zero_g
none_meet r [] h = refl
none_meet r (s ∷ ss) h = ap₂ (λ b x. add_g (when b s.entry) x) h.0 (none_meet r ss h.1) ∙ add_zero zero_g

entry_over : (rs : List Row) (xs : List ℕ) → AreDistinct rs → entry_at rs xs ≡ sum_over rs (λ r. when (same_values r.values xs) r.entry)
entry_over [] xs h = refl
entry_over (r ∷ rs) xs h = go (same_values r.values xs) refl (entry_over rs xs h.1)
  where
    go : (b : Bool) → same_values r.values xs ≡ b → entry_at rs xs ≡ sum_over rs (λ s. when (same_values s.values xs) s.entry) →
        cond b r.entry (entry_at rs xs) ≡ add_g (when b r.entry) (sum_over rs (λ s. when (same_values s.values xs) s.entry))
    go true e ih =
        sym (ap (add_g r.entry) (subst (λ (ys : List ℕ). sum_over rs (λ s. when (same_values s.values ys) s.entry) ≡ zero_g) (same_values-equal r.values xs e) (none_meet r rs h.0)) ∙ add_zero r.entry)
    go false e ih = ih ∙ sym (zero_add (sum_over rs (λ s. when (same_values s.values xs) s.entry)))

-- a sum in which one value counts

pub sum_below-one : (n k : ℕ) (x : Gaussian) → k < n → sum_below n (λ v. when (v == k) x) ≡ x
sum_below-one zero k x h = absurd (omega arith)
sum_below-one (suc n) k x h = go (n == k) refl (sum_below-one n k x)
  where
    past : (m : ℕ) → m ≤ k → sum_below m (λ v. when (v == k) x) ≡ zero_g
    past zero l = refl
    past (suc m) l =
        ap₂ add_g (past m (omega arith)) (ap (λ b. when b x) (ne_eqb m k (λ e. omega arith))) ∙ add_zero zero_g

    go : (b : Bool) → (n == k) ≡ b → (k < n → sum_below n (λ v. when (v == k) x) ≡ x) → add_g (sum_below n (λ v. when (v == k) x)) (when b x) ≡ x
    go true e ih = let f : n ≡ k = eqb-true n k e in ap (λ y. add_g y x) (past n (omega arith)) ∙ zero_add x
    go false e ih =
        let f : n ≡ k → ⊥ = λ g. false≢true (sym e ∙ eq-eqb n k g) in
        add_zero (sum_below n (λ v. when (v == k) x)) ∙ ih (omega arith)

-- two assignments agree on the ends, but for those of these bonds

abbrev pub agrees : List Bond → List End → Assignment → Assignment → Bool
agrees bs [] a k = true
agrees bs (e ∷ es) a k = (is_in int_eq e.label (labels bs) || (a e == k e)) && agrees bs es a k

pub agrees_to : (bs : List Bond) (es : List End) (a k : Assignment) → agrees bs es a k ≡ true → (e : End) → is_in same_end e es ≡ true → is_in int_eq e.label (labels bs) ≡ false → a e ≡ k e
agrees_to bs [] a k h e i o = absurd (false≢true i)
agrees_to bs (z ∷ es) a k h e i o =
    let p = and_parts (is_in int_eq z.label (labels bs) || (a z == k z)) (agrees bs es a k) h in
    go (same_end e z) refl i p.0 (λ j. agrees_to bs es a k p.1 e j o)
  where
    right : (b c : Bool) → b ≡ false → (b || c) ≡ true → c ≡ true
    right b c f g = grind arith

    go : (b : Bool) → same_end e z ≡ b → (b || is_in same_end e es) ≡ true → (is_in int_eq z.label (labels bs) || (a z == k z)) ≡ true →
        (is_in same_end e es ≡ true → a e ≡ k e) → a e ≡ k e
    go true f j q ih =
        let w : e ≡ z = end_test.equal e z f in
        subst (λ (x : End). a x ≡ k x) (sym w)
        (eqb-true (a z) (k z) (right (is_in int_eq z.label (labels bs)) (a z == k z) (subst (λ (x : End). is_in int_eq x.label (labels bs) ≡ false) w o) q))
    go false f j q ih = ih j

pub agrees_from : (bs : List Bond) (es : List End) (a k : Assignment) → ((e : End) → is_in same_end e es ≡ true → is_in int_eq e.label (labels bs) ≡ false → a e ≡ k e) → agrees bs es a k ≡ true
agrees_from bs [] a k h = refl
agrees_from bs (z ∷ es) a k h =
    ap₂ ◌&&◌ (go (is_in int_eq z.label (labels bs)) refl) (agrees_from bs es a k (λ e i o. h e (or_right (same_end e z) (is_in same_end e es) i) o))
  where
    go : (b : Bool) → is_in int_eq z.label (labels bs) ≡ b → (b || (a z == k z)) ≡ true
    go true f = refl
    go false f = eq-eqb (a z) (k z) (h z (or_left (same_end z z) (is_in same_end z es) (end_test.itself z)) f)

-- one more bond
pub agrees_more : (b : Bond) (bs : List Bond) (es : List End) (a k : Assignment) (v : ℕ) → is_in int_eq b.label (labels bs) ≡ false →
    is_in same_end (in_end b) es ≡ true → is_in same_end (out_end b) es ≡ true →
    agrees bs es (assign a b.label v) k ≡ ((v == k (in_end b)) && ((v == k (out_end b)) && agrees (b ∷ bs) es a k))
agrees_more b bs es a k v apart inside outside =
    same_tests (agrees bs es (assign a b.label v) k) ((v == k (in_end b)) && ((v == k (out_end b)) && agrees (b ∷ bs) es a k)) there back
  where
    at_bond : (x : ℕ) → cond (int_eq b.label b.label) v x ≡ v
    at_bond x = ap (λ c. cond c v x) (label_test.itself b.label)

    elsewhere : (l : ℤ) (x : ℕ) → int_eq l b.label ≡ false → cond (int_eq l b.label) v x ≡ x
    elsewhere l x e = ap (λ c. cond c v x) e

    there : agrees bs es (assign a b.label v) k ≡ true → ((v == k (in_end b)) && ((v == k (out_end b)) && agrees (b ∷ bs) es a k)) ≡ true
    there h =
        ap₂ ◌&&◌
        (eq-eqb v (k (in_end b)) (sym (at_bond (a (in_end b))) ∙ agrees_to bs es (assign a b.label v) k h (in_end b) inside apart))
        (ap₂ ◌&&◌
        (eq-eqb v (k (out_end b)) (sym (at_bond (a (out_end b))) ∙ agrees_to bs es (assign a b.label v) k h (out_end b) outside apart))
        (agrees_from (b ∷ bs) es a k (λ e i o.
        let p = or_parts (int_eq e.label b.label) (is_in int_eq e.label (labels bs)) o in
        sym (elsewhere e.label (a e) p.0) ∙ agrees_to bs es (assign a b.label v) k h e i p.1)))

    back : ((v == k (in_end b)) && ((v == k (out_end b)) && agrees (b ∷ bs) es a k)) ≡ true → agrees bs es (assign a b.label v) k ≡ true
    back h =
        let p = and_parts (v == k (in_end b)) ((v == k (out_end b)) && agrees (b ∷ bs) es a k) h in
        let q = and_parts (v == k (out_end b)) (agrees (b ∷ bs) es a k) p.1 in
        agrees_from bs es (assign a b.label v) k (λ e i o. at e.label e.inward (int_eq e.label b.label) refl (eqb-true v (k (in_end b)) p.0) (eqb-true v (k (out_end b)) q.0)
        (λ f. agrees_to (b ∷ bs) es a k q.1 e i (or_from (int_eq e.label b.label) (is_in int_eq e.label (labels bs)) f o)))
      where
        at : (l : ℤ) (i c : Bool) → int_eq l b.label ≡ c → v ≡ k (in_end b) → v ≡ k (out_end b) →
            (c ≡ false → a (record { label = l; inward = i }) ≡ k (record { label = l; inward = i })) →
            cond c v (a (record { label = l; inward = i })) ≡ k (record { label = l; inward = i })
        at l true true f g h m = g ∙ ap (λ w. k (record { label = w; inward = true })) (sym (label_test.equal l b.label f))
        at l false true f g h m = h ∙ ap (λ w. k (record { label = w; inward = false })) (sym (label_test.equal l b.label f))
        at l i false f g h m = m refl

-- the values at the bonds are in range
abbrev InRange : Assignment → List Bond → Type 0
InRange k [] = Unit {0}
InRange k (b ∷ bs) = (k (in_end b) < b.dim) × InRange k bs

-- a value that is to be two others
pub same_two : (v i o : ℕ) (p r : Bool) (x : Gaussian) → when (p && ((v == i) && ((v == o) && r))) x ≡ when (v == i) (when (((i == o) && p) && r) x)
same_two v i o p r x = go (v == i) refl
  where
    plain : (p q r : Bool) → (p && (q && r)) ≡ ((q && p) && r)
    plain p q r = grind arith

    none_at : (p : Bool) → (p && false) ≡ false
    none_at p = grind arith

    go : (c : Bool) → (v == i) ≡ c → when (p && (c && ((v == o) && r))) x ≡ when c (when (((i == o) && p) && r) x)
    go true e = ap (λ w. when (p && ((w == o) && r)) x) (eqb-true v i e) ∙ ap (λ b. when b x) (plain p (i == o) r)
    go false e = ap (λ b. when b x) (none_at p)

sums-one : (bs : List Bond) (es : List End) (f : Assignment → Gaussian) (k : Assignment) → DependsOn es f → IsDistinct int_eq (labels bs) → InRange k bs →
    ((e : End) → is_in same_end e (pairs_of bs) ≡ true → is_in same_end e es ≡ true) → (a : Assignment) →
    sums bs (λ c. when (agrees [] es c k) (f c)) a ≡ when (meet_on bs k && agrees bs es a k) (f k)
sums-one [] es f k d u r inside a = go (agrees [] es a k) refl
  where
    go : (b : Bool) → agrees [] es a k ≡ b → when b (f a) ≡ when b (f k)
    go true e = d a k (λ x i. agrees_to [] es a k e x i refl)
    go false e = refl
sums-one (b ∷ bs) es f k d u r inside a =
    let at_in : is_in same_end (in_end b) es ≡ true = inside (in_end b) (or_left (same_end (in_end b) (in_end b)) (is_in same_end (in_end b) (out_end b ∷ pairs_of bs)) (end_test.itself (in_end b))) in
    let at_out : is_in same_end (out_end b) es ≡ true =
    inside (out_end b) (or_right (same_end (out_end b) (in_end b)) (is_in same_end (out_end b) (out_end b ∷ pairs_of bs)) (or_left (same_end (out_end b) (out_end b)) (is_in same_end (out_end b) (pairs_of bs)) (end_test.itself (out_end b)))) in
    ap (sum_below b.dim) (fun_ext (λ v.
    sums-one bs es f k d u.1 r.1 (λ e i. inside e (or_right (same_end e (in_end b)) (is_in same_end e (out_end b ∷ pairs_of bs)) (or_right (same_end e (out_end b)) (is_in same_end e (pairs_of bs)) i))) (assign a b.label v)
    ∙ ap (λ c. when (meet_on bs k && c) (f k)) (agrees_more b bs es a k v u.0 at_in at_out)
    ∙ same_two v (k (in_end b)) (k (out_end b)) (meet_on bs k) (agrees (b ∷ bs) es a k) (f k)))
    ∙ sum_below-one b.dim (k (in_end b)) (when (((k (in_end b) == k (out_end b)) && meet_on bs k) && agrees (b ∷ bs) es a k) (f k)) r.0

-- lists of values

pub values-append : (es fs : List End) (a : Assignment) → values (es ++ fs) a ≡ values es a ++ values fs a
values-append [] fs a = refl
values-append (e ∷ es) fs a = ap (λ vs. a e ∷ vs) (values-append es fs a)

-- different ends read back the values that they were given
pub values_back : (es : List End) (xs : List ℕ) → IsDistinct same_end es → length xs ≡ length es → values es (at_values es xs) ≡ xs
values_back [] [] d h = refl
values_back [] (x ∷ xs) d h = absurd (omega (arith, h))
values_back (e ∷ es) [] d h = absurd (omega (arith, h))
values_back (e ∷ es) (x ∷ xs) d h =
    ap₂ ◌∷◌ (ap (λ b. cond b x (at_values es xs e)) (end_test.itself e))
    (rest es (λ f i. i) ∙ values_back es xs d.1 (omega (arith, h)))
  where
    other : (f : End) → is_in same_end f es ≡ true → same_end f e ≡ false
    other f i = apart_by same_end end_test f e es i d.0

    rest : (fs : List End) → ((f : End) → is_in same_end f fs ≡ true → is_in same_end f es ≡ true) →
        values fs (at_values (e ∷ es) (x ∷ xs)) ≡ values fs (at_values es xs)
    rest [] k = refl
    rest (f ∷ fs) k =
        ap₂ ◌∷◌ (ap (λ b. cond b x (at_values es xs f)) (other f (k f (or_left (same_end f f) (is_in same_end f fs) (end_test.itself f)))))
        (rest fs (λ g i. k g (or_right (same_end g f) (is_in same_end g fs) i)))

pub append_parts : (us vs us' vs' : List ℕ) → length us ≡ length us' → us ++ vs ≡ us' ++ vs' → (us ≡ us') × (vs ≡ vs')
append_parts [] vs [] vs' h e = (refl, e)
append_parts [] vs (x ∷ us') vs' h e = absurd (omega (arith, h))
append_parts (x ∷ us) vs [] vs' h e = absurd (omega (arith, h))
append_parts (x ∷ us) vs (y ∷ us') vs' h e =
    let p : x ≡ y = cc in
    let q : us ++ vs ≡ us' ++ vs' = cc in
    let r = append_parts us vs us' vs' (omega (arith, h)) q in
    (ap₂ ◌∷◌ p r.0, r.1)

pub length-values : (es : List End) (a : Assignment) → length (values es a) ≡ length es
length-values [] a = refl
length-values (e ∷ es) a = ap suc (length-values es a)

pub length-append : (es fs : List End) (us vs : List ℕ) → length us ≡ length es → length vs ≡ length fs → length (us ++ vs) ≡ length (es ++ fs)
length-append [] fs [] vs h k = k
length-append [] fs (x ∷ us) vs h k = absurd (omega (arith, h))
length-append (e ∷ es) fs [] vs h k = absurd (omega (arith, h))
length-append (e ∷ es) fs (x ∷ us) vs h k = ap suc (length-append es fs us vs (omega (arith, h)) k)

below_values : (dims : ℤ → ℕ) (es : List End) (k : Assignment) → AreBelow dims es (values es k) → (e : End) → is_in same_end e es ≡ true → k e < dims e.label
below_values dims [] k h e i = absurd (false≢true i)
below_values dims (z ∷ es) k h e i = go (same_end e z) refl i (below_values dims es k h.1 e)
  where
    go : (b : Bool) → same_end e z ≡ b → (b || is_in same_end e es) ≡ true → (is_in same_end e es ≡ true → k e < dims e.label) → k e < dims e.label
    go true f j ih = subst (λ (x : End). k x < dims x.label) (sym (end_test.equal e z f)) h.0
    go false f j ih = ih j

-- the law

pub when_product : (b p q : Bool) (x y : Gaussian) → signed b (mul_g (when p x) (when q y)) ≡ when (p && q) (signed b (mul_g x y))
when_product b true true x y = refl
when_product b true false x y = ap (signed b) (mul_zero x) ∙ signed-zero b
when_product b false q x y = ap (signed b) (zero_mul (when q y)) ∙ signed-zero b

module _ (par : ℤ → ℕ → Bool) (dims : ℤ → ℕ) (es fs : List End) (rs ss : List Row) (p q : Bool) (bonds : List Bond) (opens : List End) (xs : List ℕ) where
  abbrev ns : List Node
  ns = record { ends = es; entry = entry_at rs; odd = p } ∷ record { ends = fs; entry = entry_at ss; odd = q } ∷ []

  -- the two rows give these values
  abbrev chosen : Row → Row → Assignment → Bool
  chosen r s c = same_values r.values (values es c) && same_values s.values (values fs c)

  abbrev amount : Row → Row → Assignment → Gaussian
  amount r s c = signed (sign par ns bonds opens c) (mul_g r.entry s.entry)

  by_rows : AreDistinct rs → AreDistinct ss → (c : Assignment) →
      signed (sign par ns bonds opens c) (product ns c) ≡ sum_over rs (λ r. sum_over ss (λ s. when (chosen r s c) (amount r s c)))
  by_rows dr ds c =
      ap (signed (sign par ns bonds opens c))
      (ap₂ mul_g (entry_over rs (values es c) dr) (mul_one (entry_at ss (values fs c)) ∙ entry_over ss (values fs c) ds)
      ∙ over-mul rs (λ r. when (same_values r.values (values es c)) r.entry) (sum_over ss (λ s. when (same_values s.values (values fs c)) s.entry)))
      ∙ over-signed (sign par ns bonds opens c) rs (λ r. mul_g (when (same_values r.values (values es c)) r.entry) (sum_over ss (λ s. when (same_values s.values (values fs c)) s.entry)))
      ∙ over-congr rs _ _ (λ r.
      ap (signed (sign par ns bonds opens c)) (mul-over ss (λ s. when (same_values s.values (values fs c)) s.entry) (when (same_values r.values (values es c)) r.entry))
      ∙ over-signed (sign par ns bonds opens c) ss (λ s. mul_g (when (same_values r.values (values es c)) r.entry) (when (same_values s.values (values fs c)) s.entry))
      ∙ over-congr ss _ _ (λ s. when_product (sign par ns bonds opens c) (same_values r.values (values es c)) (same_values s.values (values fs c)) r.entry s.entry))

  chosen_to : (r s : Row) (c : Assignment) → chosen r s c ≡ true → (e : End) → is_in same_end e (es ++ fs) ≡ true → c e ≡ joined es fs r s e
  chosen_to r s c h e i =
      let t = and_parts (same_values r.values (values es c)) (same_values s.values (values fs c)) h in
      sym (at_values-values (es ++ fs) c e i)
      ∙ ap (λ vs. at_values (es ++ fs) vs e)
      (values-append es fs c ∙ sym (ap₂ ◌++◌ (same_values-equal r.values (values es c) t.0) (same_values-equal s.values (values fs c) t.1)))

  -- where they give values at all, these are the ones that they join to
  chosen_is : (r s : Row) (c : Assignment) → chosen r s c ≡ (chosen r s (joined es fs r s) && agrees [] (es ++ fs) c (joined es fs r s))
  chosen_is r s c =
      same_tests (chosen r s c) (chosen r s (joined es fs r s) && agrees [] (es ++ fs) c (joined es fs r s))
      (λ h. ap₂ ◌&&◌ (sym (same_choice (chosen_to r s c h)) ∙ h) (agrees_from [] (es ++ fs) c (joined es fs r s) (λ e i o. chosen_to r s c h e i)))
      (λ h. let t = and_parts (chosen r s (joined es fs r s)) (agrees [] (es ++ fs) c (joined es fs r s)) h in
      same_choice (λ e i. agrees_to [] (es ++ fs) c (joined es fs r s) t.1 e i refl) ∙ t.0)
    where
      same_choice : ((e : End) → is_in same_end e (es ++ fs) ≡ true → c e ≡ joined es fs r s e) → chosen r s c ≡ chosen r s (joined es fs r s)
      same_choice h =
          ap₂ (λ u v. same_values r.values u && same_values s.values v)
          (values-agree es c (joined es fs r s) (λ e i. h e (is_in-append same_end e es fs ∙ or_left (is_in same_end e es) (is_in same_end e fs) i)))
          (values-agree fs c (joined es fs r s) (λ e i. h e (is_in-append same_end e es fs ∙ or_right (is_in same_end e es) (is_in same_end e fs) i)))

  module _ (net : IsNetwork ns bonds opens) (long : length xs ≡ length opens) (fit : HaveDims dims bonds) where
    word_is : word ns ≡ es ++ fs
    word_is = ap (λ w. es ++ w) (append-nil fs)

    complete : Perm (es ++ fs) (goal bonds opens)
    complete = subst (λ w. Perm w (goal bonds opens)) word_is net.complete

    goal_distinct : IsDistinct same_end (goal bonds opens)
    goal_distinct = distinct-perm same_end end_test net.complete net.distinct

    bond_inside : (e : End) → is_in same_end e (pairs_of bonds) ≡ true → is_in same_end e (es ++ fs) ≡ true
    bond_inside e i = is_in-perm same_end e complete ∙ is_in-append same_end e (pairs_of bonds) opens ∙ or_left (is_in same_end e (pairs_of bonds)) (is_in same_end e opens) i

    amount_depends : (r s : Row) → DependsOn (es ++ fs) (amount r s)
    amount_depends r s a c h =
        ap (λ b. signed b (mul_g r.entry s.entry)) (sign-agree par ns bonds opens a c (λ e i. h e (is_in-perm same_end e complete ∙ i)))

    -- the open lines have the values xs exactly where the rows leave these
    open_is : (k : Assignment) → agrees bonds (es ++ fs) (at_values opens xs) k ≡ same_values xs (values opens k)
    open_is k = same_tests (agrees bonds (es ++ fs) (at_values opens xs) k) (same_values xs (values opens k)) there back
      where
        there : agrees bonds (es ++ fs) (at_values opens xs) k ≡ true → same_values xs (values opens k) ≡ true
        there h =
            ap (same_values xs)
            (sym (values-agree opens (at_values opens xs) k (λ e i.
            agrees_to bonds (es ++ fs) (at_values opens xs) k h e
            (is_in-perm same_end e complete ∙ is_in-append same_end e (pairs_of bonds) opens ∙ or_right (is_in same_end e (pairs_of bonds)) (is_in same_end e opens) i)
            (sym (ends-labels e bonds) ∙ distinct_parts_back same_end end_test e (pairs_of bonds) opens goal_distinct i)))
            ∙ values_back opens xs (distinct_second same_end (pairs_of bonds) opens goal_distinct) long)
            ∙ same_values-itself xs

        back : same_values xs (values opens k) ≡ true → agrees bonds (es ++ fs) (at_values opens xs) k ≡ true
        back h =
            agrees_from bonds (es ++ fs) (at_values opens xs) k (λ e i o.
            ap (λ vs. at_values opens vs e) (same_values-equal xs (values opens k) h)
            ∙ at_values-values opens k e
            (second (is_in same_end e (pairs_of bonds)) (is_in same_end e opens) (ends-labels e bonds ∙ o)
            (sym (is_in-append same_end e (pairs_of bonds) opens) ∙ sym (is_in-perm same_end e complete) ∙ i)))
          where
            second : (b c : Bool) → b ≡ false → (b || c) ≡ true → c ≡ true
            second b c f g = grind arith

    word_distinct : IsDistinct same_end (es ++ fs)
    word_distinct = subst (IsDistinct same_end) word_is net.distinct

    long_row : (gs : List End) (vs : List ℕ) → AreBelow dims gs vs → length vs ≡ length gs
    long_row [] [] h = refl
    long_row [] (v ∷ vs) h = absurd h
    long_row (g ∷ gs) [] h = absurd h
    long_row (g ∷ gs) (v ∷ vs) h = ap suc (long_row gs vs h.1)

    -- the two rows give their own values to their ends
    own_values : (r s : Row) → AreBelow dims es r.values → AreBelow dims fs s.values →
        (values es (joined es fs r s) ≡ r.values) × (values fs (joined es fs r s) ≡ s.values)
    own_values r s hr hs =
        append_parts (values es (joined es fs r s)) (values fs (joined es fs r s)) r.values s.values
        (length-values es (joined es fs r s) ∙ sym (long_row es r.values hr))
        (sym (values-append es fs (joined es fs r s))
        ∙ values_back (es ++ fs) (r.values ++ s.values) word_distinct (length-append es fs r.values s.values (long_row es r.values hr) (long_row fs s.values hs)))

    chosen_own : (r s : Row) → AreBelow dims es r.values → AreBelow dims fs s.values → chosen r s (joined es fs r s) ≡ true
    chosen_own r s hr hs =
        let o = own_values r s hr hs in
        ap₂ (λ u v. same_values r.values u && same_values s.values v) o.0 o.1 ∙ ap₂ ◌&&◌ (same_values-itself r.values) (same_values-itself s.values)

    in_range : (r s : Row) → AreBelow dims es r.values → AreBelow dims fs s.values → InRange (joined es fs r s) bonds
    in_range r s hr hs = each bonds fit bond_inside
      where
        below : (e : End) → is_in same_end e (es ++ fs) ≡ true → joined es fs r s e < dims e.label
        below e i = go (or_cases (is_in same_end e es) (is_in same_end e fs) (sym (is_in-append same_end e es fs) ∙ i))
          where
            go : (is_in same_end e es ≡ true) ⊎ (is_in same_end e fs ≡ true) → joined es fs r s e < dims e.label
            go (inl j) = below_values dims es (joined es fs r s) (subst (AreBelow dims es) (sym (own_values r s hr hs).0) hr) e j
            go (inr j) = below_values dims fs (joined es fs r s) (subst (AreBelow dims fs) (sym (own_values r s hr hs).1) hs) e j

        each : (bs : List Bond) → HaveDims dims bs → ((e : End) → is_in same_end e (pairs_of bs) ≡ true → is_in same_end e (es ++ fs) ≡ true) → InRange (joined es fs r s) bs
        each [] f g = tt
        each (b ∷ bs) f g = (
          subst (λ n. joined es fs r s (in_end b) < n) (sym f.0)
              (below (in_end b) (g (in_end b) (or_left (same_end (in_end b) (in_end b)) (is_in same_end (in_end b) (out_end b ∷ pairs_of bs)) (end_test.itself (in_end b))))),
          each bs f.1 (λ e i. g e (or_right (same_end e (in_end b)) (is_in same_end e (out_end b ∷ pairs_of bs)) (or_right (same_end e (out_end b)) (is_in same_end e (pairs_of bs)) i))),
        )

    -- two rows add one term, if they meet
    two_rows : (r s : Row) → AreBelow dims es r.values → AreBelow dims fs s.values →
        sums bonds (λ c. when (chosen r s c) (amount r s c)) (at_values opens xs) ≡ when (meet es fs bonds opens xs r s) (amount r s (joined es fs r s))
    two_rows r s hr hs =
        ap (λ (f : Assignment → Gaussian). sums bonds f (at_values opens xs)) (fun_ext (λ c.
        ap (λ b. when b (amount r s c)) (chosen_is r s c ∙ ap (λ b. b && agrees [] (es ++ fs) c (joined es fs r s)) (chosen_own r s hr hs))))
        ∙ sums-one bonds (es ++ fs) (amount r s) (joined es fs r s) (amount_depends r s)
        (labels_distinct bonds (distinct_first same_end (pairs_of bonds) opens goal_distinct)) (in_range r s hr hs) bond_inside (at_values opens xs)
        ∙ ap (λ b. when (meet_on bonds (joined es fs r s) && b) (amount r s (joined es fs r s))) (open_is (joined es fs r s))

    pub rows_law : AreDistinct rs → AreDistinct ss → AllBelow dims es rs → AllBelow dims fs ss →
        (contract par ns bonds opens).entry xs ≡
        sum_over rs (λ r. sum_over ss (λ s. when (meet es fs bonds opens xs r s) (amount r s (joined es fs r s))))
    rows_law dr ds hr hs =
        ap (λ (f : Assignment → Gaussian). sums bonds f (at_values opens xs)) (fun_ext (by_rows dr ds))
        ∙ sums-over rs bonds (λ r c. sum_over ss (λ s. when (chosen r s c) (amount r s c))) (at_values opens xs)
        ∙ first rs hr
      where
        second : (r : Row) → AreBelow dims es r.values → (ts : List Row) → AllBelow dims fs ts →
            sum_over ts (λ s. sums bonds (λ c. when (chosen r s c) (amount r s c)) (at_values opens xs)) ≡ sum_over ts (λ s. when (meet es fs bonds opens xs r s) (amount r s (joined es fs r s)))
        second r h [] k = refl
        second r h (s ∷ ts) k = ap₂ add_g (two_rows r s h k.0) (second r h ts k.1)

        first : (ts : List Row) → AllBelow dims es ts →
            sum_over ts (λ r. sums bonds (λ c. sum_over ss (λ s. when (chosen r s c) (amount r s c))) (at_values opens xs))
            ≡ sum_over ts (λ r. sum_over ss (λ s. when (meet es fs bonds opens xs r s) (amount r s (joined es fs r s))))
        first [] k = refl
        first (r ∷ ts) k =
            ap₂ add_g (sums-over ss bonds (λ s c. when (chosen r s c) (amount r s c)) (at_values opens xs) ∙ second r k.0 ss hs) (first ts k.1)
