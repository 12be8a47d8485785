use Rattle.std.proofs.Common.{◌≡◌, ℕ, zero, suc, ℤ, Bool, true, false, cond, List, [], ◌∷◌, ◌++◌, refl, sym, ◌∙◌, ap, subst, map, int_eq}
use Rattle.std.proofs.lemmas.Bool.{or_parts, or_from, false≢true}
use Rattle.std.proofs.lemmas.Bool.Decides.{Decides-int_eq}
use mathlib.Core.Path.{fun_ext}
use Rattle.qn_sign.specs.Sign.{is_in, IsTest, IsDistinct, Perm}
use Rattle.qn_sign.specs.Sign.Perm.{none, keep, swap, then_by}
use Rattle.qn_gauss.specs.Gaussian.{Gaussian, zero_g, add_g, mul_g}
use Rattle.qn_value.specs.Networks.{End, Bond, Assignment, assign, in_end, out_end, sum_below, sums, same_end, labels}
use Rattle.qn_sign.proofs.Order.{distinct-perm}
use Rattle.qn_gauss.proofs.Ring.{add_comm, add_assoc, add_zero, mul_zero, mul_add}

pub add_middle : (a b c d : Gaussian) → add_g (add_g a b) (add_g c d) ≡ add_g (add_g a c) (add_g b d)
add_middle a b c d =
    add_assoc a b (add_g c d)
    ∙ ap (add_g a) (sym (add_assoc b c d) ∙ ap (λ x. add_g x d) (add_comm b c) ∙ add_assoc c b d)
    ∙ sym (add_assoc a c (add_g b d))

pub sum_below-add : (n : ℕ) (f g : ℕ → Gaussian) → sum_below n (λ v. add_g (f v) (g v)) ≡ add_g (sum_below n f) (sum_below n g)
sum_below-add zero f g = sym (add_zero zero_g)
sum_below-add (suc n) f g = rw (sum_below-add n f g) (add_middle (sum_below n f) (sum_below n g) (f n) (g n))

pub sum_below-zero : (n : ℕ) → sum_below n (λ v. zero_g) ≡ zero_g
sum_below-zero zero = refl
sum_below-zero (suc n) = rw (sum_below-zero n) (add_zero zero_g)

pub sum_below-swap : (n m : ℕ) (f : ℕ → ℕ → Gaussian) → sum_below n (λ v. sum_below m (λ u. f v u)) ≡ sum_below m (λ u. sum_below n (λ v. f v u))
sum_below-swap zero m f = sym (sum_below-zero m)
sum_below-swap (suc n) m f = rw (sum_below-swap n m f) (sym (sum_below-add m (λ u. sum_below n (λ v. f v u)) (λ u. f n u)))

pub sum_below-scale : (n : ℕ) (c : Gaussian) (f : ℕ → Gaussian) → sum_below n (λ v. mul_g c (f v)) ≡ mul_g c (sum_below n f)
sum_below-scale zero c f = sym (mul_zero c)
sum_below-scale (suc n) c f = rw (sum_below-scale n c f) (sym (mul_add c (sum_below n f) (f n)))

pub sums-append : (bs cs : List Bond) (f : Assignment → Gaussian) (a : Assignment) → sums (bs ++ cs) f a ≡ sums bs (λ c. sums cs f c) a
sums-append [] cs f a = refl
sums-append (b ∷ bs) cs f a = ap (sum_below b.dim) (fun_ext (λ v. sums-append bs cs f (assign a b.label v)))

-- labels

pub label_test : IsTest int_eq
label_test = record {
  itself = λ x. (Decides-int_eq x x).1 refl;
  equal = λ x y e. (Decides-int_eq x y).0 e;
}

pub perm-map : {A B : Type 0} (f : A → B) {xs ys : List A} → Perm xs ys → Perm (map f xs) (map f ys)
perm-map f none = none
perm-map f (keep p) = keep (perm-map f p)
perm-map f swap = swap
perm-map f (then_by p q) = then_by (perm-map f p) (perm-map f q)

-- two different labels get their values in either order
pub assign_swap : (a : Assignment) (l k : ℤ) (v u : ℕ) → int_eq l k ≡ false → assign (assign a l v) k u ≡ assign (assign a k u) l v
assign_swap a l k v u d = fun_ext (λ e. step (int_eq e.label k) (int_eq e.label l) (a e) (both e.label))
  where
    step : (p q : Bool) (x : ℕ) → (p ≡ true → q ≡ true → ⊥) → cond p u (cond q v x) ≡ cond q v (cond p u x)
    step true true x h = absurd (h refl refl)
    step true false x h = refl
    step false q x h = refl

    both : (m : ℤ) → int_eq m k ≡ true → int_eq m l ≡ true → ⊥
    both m e f =
        false≢true (sym d ∙ subst (λ w. int_eq l w ≡ true) (sym (label_test.equal m l f) ∙ label_test.equal m k e) (label_test.itself l))

-- the order of summation does not matter
pub sums-perm : {bs cs : List Bond} → Perm bs cs → IsDistinct int_eq (labels bs) → (f : Assignment → Gaussian) (a : Assignment) → sums bs f a ≡ sums cs f a
sums-perm none d f a = refl
sums-perm (keep {x = b} p) d f a = ap (sum_below b.dim) (fun_ext (λ v. sums-perm p d.1 f (assign a b.label v)))
sums-perm (swap {x = b} {y = c} {xs = bs}) d f a =
    sum_below-swap b.dim c.dim (λ v u. sums bs f (assign (assign a b.label v) c.label u))
    ∙ ap (sum_below c.dim) (fun_ext (λ u. ap (sum_below b.dim) (fun_ext (λ v.
    ap (sums bs f) (assign_swap a b.label c.label v u (or_parts (int_eq b.label c.label) (is_in int_eq b.label (labels bs)) d.0).0)))))
sums-perm (then_by p q) d f a = sums-perm p d f a ∙ sums-perm q (distinct-perm int_eq label_test (perm-map (λ b. b.label) p) d) f a

-- the bonds' values do not matter
abbrev pub IsSteady : {X : Type 0} → (Assignment → X) → List Bond → Type 0
IsSteady c [] = Unit {0}
IsSteady c (b ∷ bs) = ((a : Assignment) (v : ℕ) → c (assign a b.label v) ≡ c a) × IsSteady c bs

-- such a factor stands before the sum
pub sums-scale : (bs : List Bond) (c f : Assignment → Gaussian) → IsSteady c bs → (a : Assignment) →
    sums bs (λ x. mul_g (c x) (f x)) a ≡ mul_g (c a) (sums bs f a)
sums-scale [] c f s a = refl
sums-scale (b ∷ bs) c f s a =
    ap (sum_below b.dim) (fun_ext (λ v. sums-scale bs c f s.1 (assign a b.label v) ∙ ap (λ x. mul_g x (sums bs f (assign a b.label v))) (s.0 a v)))
    ∙ sum_below-scale b.dim (c a) (λ v. sums bs f (assign a b.label v))

-- the two assignments give the ends the same values
abbrev pub Agree : List End → Assignment → Assignment → Type 0
Agree es a c = (e : End) → is_in same_end e es ≡ true → a e ≡ c e

-- the same, but for the ends of these bonds
abbrev pub AgreeOutside : List Bond → List End → Assignment → Assignment → Type 0
AgreeOutside bs es a c = (e : End) → is_in same_end e es ≡ true → is_in int_eq e.label (labels bs) ≡ false → a e ≡ c e

-- only the values of these ends matter
abbrev pub DependsOn : {X : Type 0} → List End → (Assignment → X) → Type 0
DependsOn es f = (a c : Assignment) → Agree es a c → f a ≡ f c

pub sums-agree : (bs : List Bond) (es : List End) (f : Assignment → Gaussian) → DependsOn es f → (a c : Assignment) →
    AgreeOutside bs es a c → sums bs f a ≡ sums bs f c
sums-agree [] es f d a c h = d a c (λ e k. h e k refl)
sums-agree (b ∷ bs) es f d a c h =
    ap (sum_below b.dim) (fun_ext (λ v. sums-agree bs es f d (assign a b.label v) (assign c b.label v)
    (λ e k l. step v (int_eq e.label b.label) (a e) (c e) (λ m. h e k (or_from (int_eq e.label b.label) (is_in int_eq e.label (labels bs)) m l)))))
  where
    step : (v : ℕ) (p : Bool) (x y : ℕ) → (p ≡ false → x ≡ y) → cond p v x ≡ cond p v y
    step v true x y h = refl
    step v false x y h = h refl

-- a function of ends of other lines is steady
pub steady_from : {X : Type 0} (bs : List Bond) (es : List End) (f : Assignment → X) → DependsOn es f →
    ((e : End) → is_in same_end e es ≡ true → is_in int_eq e.label (labels bs) ≡ false) → IsSteady f bs
steady_from [] es f d h = tt
steady_from (b ∷ bs) es f d h = (
  (λ a v. d (assign a b.label v) a (λ e k. step v (int_eq e.label b.label) (a e) ((or_parts (int_eq e.label b.label) (is_in int_eq e.label (labels bs)) (h e k)).0))),
  steady_from bs es f d (λ e k. (or_parts (int_eq e.label b.label) (is_in int_eq e.label (labels bs)) (h e k)).1),
)
  where
    step : (v : ℕ) (p : Bool) (x : ℕ) → p ≡ false → cond p v x ≡ x
    step v p x e = rw e refl

-- both ends of each of the bonds have one value
abbrev pub Meets : List Bond → Assignment → Type 0
Meets [] c = Unit {0}
Meets (b ∷ bs) c = (c (in_end b) ≡ c (out_end b)) × Meets bs c

pub meets-perm : {bs cs : List Bond} → Perm bs cs → (c : Assignment) → Meets bs c → Meets cs c
meets-perm none c m = m
meets-perm (keep p) c m = (m.0, meets-perm p c m.1)
meets-perm swap c m = (m.1.0, (m.0, m.1.1))
meets-perm (then_by p q) c m = meets-perm q c (meets-perm p c m)

pub assign_both : (b : Bond) (a : Assignment) (v : ℕ) → assign a b.label v (in_end b) ≡ assign a b.label v (out_end b)
assign_both b a v = ap (λ t. cond t v (a (in_end b))) (label_test.itself b.label) ∙ sym (ap (λ t. cond t v (a (out_end b))) (label_test.itself b.label))

-- the two summands need to agree only where the ends of each bond have one value
sums_kept : (P : Assignment → Type 0) → ((c : Assignment) (l : ℤ) (v : ℕ) → P c → P (assign c l v)) → (bs : List Bond) (f g : Assignment → Gaussian) →
    ((c : Assignment) → P c → Meets bs c → f c ≡ g c) → (a : Assignment) → P a → sums bs f a ≡ sums bs g a
sums_kept P stable [] f g h a p = h a p tt
sums_kept P stable (b ∷ bs) f g h a p =
    ap (sum_below b.dim) (fun_ext (λ v.
    sums_kept (λ c. P c × (c (in_end b) ≡ c (out_end b))) (λ c l u q. (stable c l u q.0, ap (cond (int_eq b.label l) u) q.1)) bs f g
    (λ c q m. h c q.0 (q.1, m)) (assign a b.label v) (stable a b.label v p, assign_both b a v)))

pub sums-meet : (bs : List Bond) (f g : Assignment → Gaussian) → ((c : Assignment) → Meets bs c → f c ≡ g c) → (a : Assignment) → sums bs f a ≡ sums bs g a
sums-meet bs f g h a = sums_kept (λ c. Unit {0}) (λ c l v p. tt) bs f g (λ c p m. h c m) a tt

-- a sum of zeros: a steady test tells where the summand is zero
pub sums-vanish : (bs : List Bond) (t : Assignment → Bool) (f : Assignment → Gaussian) → IsSteady t bs → (b : Bool) →
    ((c : Assignment) → Meets bs c → t c ≡ b → f c ≡ zero_g) → (a : Assignment) → t a ≡ b → sums bs f a ≡ zero_g
sums-vanish bs t f s b h a e =
    sums-meet bs f (λ c. when_not (t c) b (f c)) (λ c m. there (t c) b (f c) (h c m)) a
    ∙ nothing bs s a e
  where
    when_not : Bool → Bool → Gaussian → Gaussian
    when_not true true x = zero_g
    when_not true false x = x
    when_not false true x = x
    when_not false false x = zero_g

    there : (p q : Bool) (x : Gaussian) → (p ≡ q → x ≡ zero_g) → x ≡ when_not p q x
    there true true x k = k refl
    there true false x k = refl
    there false true x k = refl
    there false false x k = k refl

    same_zero : (q : Bool) (x : Gaussian) → when_not q q x ≡ zero_g
    same_zero true x = refl
    same_zero false x = refl

    nothing : (cs : List Bond) → IsSteady t cs → (a : Assignment) → t a ≡ b → sums cs (λ c. when_not (t c) b (f c)) a ≡ zero_g
    nothing [] s a e = ap (λ p. when_not p b (f a)) e ∙ same_zero b (f a)
    nothing (c ∷ cs) s a e =
        ap (sum_below c.dim) (fun_ext (λ v. nothing cs s.1 (assign a c.label v) (s.0 a v ∙ e))) ∙ sum_below-zero c.dim
