use Rattle.std.proofs.Common.{◌≡◌, ℕ, ℤ, Bool, true, false, ◌&&◌, ◌||◌, cond, List, [], ◌∷◌, ◌++◌, refl, sym, ◌∙◌, ap, ap₂, count_by, append_assoc, append-nil, subst₂, arith, int_eq}
use mathlib.Core.Path.{fun_ext}
use Rattle.std.proofs.lemmas.Bool.{or_parts, or_left, or_right, and_parts, false≢true}
use Rattle.qn_sign.specs.Sign.{is_in, stands_before, exchanges, is_odd, xor, IsTest, IsDistinct, Perm}
use Rattle.qn_sign.specs.Sign.Perm.{none, keep, swap, then_by}
use Rattle.qn_gauss.specs.Gaussian.{Gaussian, zero_g, one_g, mul_g, signed}
use Rattle.qn_value.specs.Networks.{End, Node, Bond, Assignment, in_end, out_end, sums, same_bool, same_end, word, pairs_of, goal, odd_end, order_sign, twist_sign, sign, values, product, at_values, labels}
use Rattle.qn_sign.proofs.Order.{is_in-append}
use Rattle.qn_sign.proofs.Parity.{is_odd-add, is_odd-count, tally, pairs, xor_assoc, xor_comm, xor_left, perm_blocks}
use Rattle.qn_sign.proofs.SignLaws.{turned, pairs-same}
use Rattle.qn_gauss.proofs.Ring.{mul_comm, mul_assoc, mul_one, mul_neg, neg_neg, neg_zero}
use Rattle.qn_value.proofs.Sums.{label_test, sums-scale, IsSteady, DependsOn, Meets}
use Rattle.qn_gauss.proofs.Ring.{one_mul}
pub use Rattle.qn_gauss.proofs.Ring.{mul_swap}
pub use Rattle.qn_gauss.proofs.Signs.{signed-zero}
pub use Rattle.qn_gauss.proofs.Signs.{mul-signed}
pub use Rattle.qn_gauss.proofs.Signs.{signed-mul}

-- the test of ends

same_bool-itself : (b : Bool) → same_bool b b ≡ true
same_bool-itself true = refl
same_bool-itself false = refl

same_bool-equal : (b c : Bool) → same_bool b c ≡ true → b ≡ c
same_bool-equal b c e = grind arith

pub end_test : IsTest same_end
end_test = record {
  itself = λ x. rw (label_test.itself x.label, same_bool-itself x.inward) refl;
  equal = λ x y e.
      let p = and_parts (int_eq x.label y.label) (same_bool x.inward y.inward) e in
      let f = label_test.equal x.label y.label p.0 in
      let g = same_bool-equal x.inward y.inward p.1 in
      λ i. record { label = f i; inward = g i };
}

-- the parity of the count is the parity of the pairs

pub exchanges-pairs : {E : Type 0} (same : E → E → Bool) (odd : E → Bool) (w g : List E) → is_odd (exchanges same odd w g) ≡ pairs (turned same odd w) g
exchanges-pairs same odd w [] = refl
exchanges-pairs same odd w (x ∷ g) =
    is_odd-add (count_by (turned same odd w x) g) (exchanges same odd w g) ∙ ap₂ xor (is_odd-count (turned same odd w x) g) (exchanges-pairs same odd w g)

-- lists of tensors

pub word-append : (ns ms : List Node) → word (ns ++ ms) ≡ word ns ++ word ms
word-append [] ms = refl
word-append (n ∷ ns) ms = ap (λ w. n.ends ++ w) (word-append ns ms) ∙ sym (append_assoc n.ends (word ns) (word ms))

pub product-append : (ns ms : List Node) (a : Assignment) → product (ns ++ ms) a ≡ mul_g (product ns a) (product ms a)
product-append [] ms a = sym (one_mul (product ms a))
product-append (n ∷ ns) ms a =
    ap (mul_g (n.entry (values n.ends a))) (product-append ns ms a) ∙ sym (mul_assoc (n.entry (values n.ends a)) (product ns a) (product ms a))

-- signs of values

pub signed-xor : (b c : Bool) (x : Gaussian) → signed (xor b c) x ≡ signed b (signed c x)
signed-xor true true x = sym (neg_neg x)
signed-xor true false x = refl
signed-xor false c x = refl

-- a sign that all summands share
pub sums-signed : (b : Bool) (bs : List Bond) (f : Assignment → Gaussian) (a : Assignment) → sums bs (λ c. signed b (f c)) a ≡ signed b (sums bs f a)
sums-signed b bs f a =
    ap (λ (g : Assignment → Gaussian). sums bs g a) (fun_ext (λ c. sym (factor (f c))))
    ∙ sums-scale bs (λ c. signed b one_g) f (steady bs) a
    ∙ factor (sums bs f a)
  where
    factor : (x : Gaussian) → mul_g (signed b one_g) x ≡ signed b x
    factor x = signed-mul b one_g x ∙ ap (signed b) (one_mul x)

    steady : (cs : List Bond) → IsSteady (λ c. signed b one_g) cs
    steady [] = tt
    steady (c ∷ cs) = ((λ a v. refl), steady cs)

pub sign-pairs : (par : ℤ → ℕ → Bool) (ns : List Node) (bs : List Bond) (opens : List End) (a : Assignment) →
    order_sign par ns bs opens a ≡ pairs (turned same_end (odd_end par a) (word ns)) (goal bs opens)
sign-pairs par ns bs opens a = exchanges-pairs same_end (odd_end par a) (word ns) (goal bs opens)

-- a bond's two ends are in the list together with its label
pub ends-labels : (e : End) (bs : List Bond) → is_in same_end e (pairs_of bs) ≡ is_in int_eq e.label (labels bs)
ends-labels e [] = refl
ends-labels e (b ∷ bs) = step (int_eq e.label b.label) e.inward (is_in same_end e (pairs_of bs)) (is_in int_eq e.label (labels bs)) (ends-labels e bs)
  where
    step : (p i r r' : Bool) → r ≡ r' → ((p && same_bool i true) || ((p && same_bool i false) || r)) ≡ (p || r')
    step true true r r' h = refl
    step true false r r' h = refl
    step false i r r' h = h

pub labels_distinct : (bs : List Bond) → IsDistinct same_end (pairs_of bs) → IsDistinct int_eq (labels bs)
labels_distinct [] d = tt
labels_distinct (b ∷ bs) d = (
  sym (ends-labels (record { label = b.label; inward = true }) bs) ∙ (or_parts (same_end (record { label = b.label; inward = true }) (record { label = b.label; inward = false })) (is_in same_end (record { label = b.label; inward = true }) (pairs_of bs)) d.0).1,
  labels_distinct bs d.1.1,
)

pub pairs_of-append : (bs cs : List Bond) → pairs_of (bs ++ cs) ≡ pairs_of bs ++ pairs_of cs
pairs_of-append [] cs = refl
pairs_of-append (b ∷ bs) cs = ap (λ es. record { label = b.label; inward = true } ∷ record { label = b.label; inward = false } ∷ es) (pairs_of-append bs cs)

-- the two ends of a bond have one value, so their parities cancel
pub bonds_even : (par : ℤ → ℕ → Bool) (a : Assignment) (bs : List Bond) → Meets bs a → tally (odd_end par a) (pairs_of bs) ≡ false
bonds_even par a [] m = refl
bonds_even par a (b ∷ bs) m = twice (par b.label (a (in_end b))) (par b.label (a (out_end b))) (tally (odd_end par a) (pairs_of bs)) (ap (par b.label) m.0) (bonds_even par a bs m.1)
  where
    twice : (p q r : Bool) → p ≡ q → r ≡ false → xor p (xor q r) ≡ false
    twice p q r f e = grind arith

pub perm_turn : {A : Type 0} (xs ys : List A) → Perm (xs ++ ys) (ys ++ xs)
perm_turn xs ys = subst₂ (λ u v. Perm (xs ++ u) (ys ++ v)) (append-nil ys) (append-nil xs) (perm_blocks xs ys [])

-- what the terms depend on

pub values-agree : (es : List End) → DependsOn es (values es)
values-agree [] a c h = refl
values-agree (e ∷ es) a c h =
    ap₂ ◌∷◌ (h e (or_left (same_end e e) (is_in same_end e es) (end_test.itself e)))
    (values-agree es a c (λ x k. h x (or_right (same_end x e) (is_in same_end x es) k)))

pub product-agree : (ns : List Node) → DependsOn (word ns) (product ns)
product-agree [] a c h = refl
product-agree (n ∷ ns) a c h =
    ap₂ mul_g
    (ap n.entry (values-agree n.ends a c (λ e k. h e (is_in-append same_end e n.ends (word ns) ∙ or_left (is_in same_end e n.ends) (is_in same_end e (word ns)) k))))
    (product-agree ns a c (λ e k. h e (is_in-append same_end e n.ends (word ns) ∙ or_right (is_in same_end e n.ends) (is_in same_end e (word ns)) k)))

-- the sign of the twisted bonds

pub twist-append : (par : ℤ → ℕ → Bool) (bs cs : List Bond) (a : Assignment) → twist_sign par (bs ++ cs) a ≡ xor (twist_sign par bs a) (twist_sign par cs a)
twist-append par [] cs a = refl
twist-append par (b ∷ bs) cs a =
    ap (xor (b.twisted && par b.label (a (in_end b)))) (twist-append par bs cs a)
    ∙ sym (xor_assoc (b.twisted && par b.label (a (in_end b))) (twist_sign par bs a) (twist_sign par cs a))

pub twist-perm : (par : ℤ → ℕ → Bool) (a : Assignment) {bs cs : List Bond} → Perm bs cs → twist_sign par bs a ≡ twist_sign par cs a
twist-perm par a none = refl
twist-perm par a (keep {x = b} p) = ap (xor (b.twisted && par b.label (a (in_end b)))) (twist-perm par a p)
twist-perm par a (swap {x = b} {y = c} {xs = bs}) =
    xor_left (b.twisted && par b.label (a (in_end b))) (c.twisted && par c.label (a (in_end c))) (twist_sign par bs a)
twist-perm par a (then_by p q) = twist-perm par a p ∙ twist-perm par a q

-- two parities of the values of these bonds that agree
pub twist-same : (par other : ℤ → ℕ → Bool) (bs : List Bond) (a c : Assignment) →
    ((e : End) → is_in same_end e (pairs_of bs) ≡ true → par e.label (a e) ≡ other e.label (c e)) → twist_sign par bs a ≡ twist_sign other bs c
twist-same par other [] a c h = refl
twist-same par other (b ∷ bs) a c h =
    let i : End = record { label = b.label; inward = true } in
    let o : End = record { label = b.label; inward = false } in
    ap₂ (λ p q. xor (b.twisted && p) q)
    (h i (or_left (same_end i i) (is_in same_end i (o ∷ pairs_of bs)) (end_test.itself i)))
    (twist-same par other bs a c (λ e k. h e (or_right (same_end e i) (is_in same_end e (o ∷ pairs_of bs)) (or_right (same_end e o) (is_in same_end e (pairs_of bs)) k))))

order-agree : (par : ℤ → ℕ → Bool) (ns : List Node) (bs : List Bond) (opens : List End) → DependsOn (goal bs opens) (order_sign par ns bs opens)
order-agree par ns bs opens a c h =
    sign-pairs par ns bs opens a
    ∙ pairs-same same_end end_test (turned same_end (odd_end par a) (word ns)) (turned same_end (odd_end par c) (word ns)) (goal bs opens)
    (λ x y k l. ap₂ (λ p q. (p && q) && stands_before same_end (word ns) y x) (ap (par x.label) (h x k)) (ap (par y.label) (h y l)))
    ∙ sym (sign-pairs par ns bs opens c)

pub sign-agree : (par : ℤ → ℕ → Bool) (ns : List Node) (bs : List Bond) (opens : List End) → DependsOn (goal bs opens) (sign par ns bs opens)
sign-agree par ns bs opens a c h =
    ap₂ xor
    (twist-same par par bs a c (λ e k. ap (par e.label) (h e (is_in-append same_end e (pairs_of bs) opens ∙ or_left (is_in same_end e (pairs_of bs)) (is_in same_end e opens) k))))
    (order-agree par ns bs opens a c h)

pub at_values-values : (es : List End) (a : Assignment) (e : End) → is_in same_end e es ≡ true → at_values es (values es a) e ≡ a e
at_values-values [] a e h = absurd (false≢true h)
at_values-values (z ∷ es) a e h = go (same_end e z) refl (at_values-values es a e) h
  where
    go : (p : Bool) → same_end e z ≡ p → (is_in same_end e es ≡ true → at_values es (values es a) e ≡ a e) →
        (p || is_in same_end e es) ≡ true → cond p (a z) (at_values es (values es a) e) ≡ a e
    go true f ih k = ap a (sym (end_test.equal e z f))
    go false f ih k = ih k

-- a sign and a factor go out of a product
pub algebra : (p q : Bool) (u v w : Gaussian) → signed (xor p q) (mul_g u (mul_g v w)) ≡ mul_g (signed q (mul_g u w)) (signed p v)
algebra p q u v w =
    ap₂ signed (xor_comm p q) (ap (mul_g u) (mul_comm v w) ∙ sym (mul_assoc u w v))
    ∙ signed-xor q p (mul_g (mul_g u w) v)
    ∙ sym (signed-mul q (mul_g u w) (signed p v) ∙ ap (signed q) (mul-signed p (mul_g u w) v))

-- nodes with the same ends, entries and parity are the same
pub node_path : (n m : Node) → n.ends ≡ m.ends → ((xs : List ℕ) → n.entry xs ≡ m.entry xs) → n.odd ≡ m.odd → n ≡ m
node_path n m e f o = λ i. record { ends = e i; entry = λ xs. f xs i; odd = o i }
