use Rattle.std.proofs.lemmas.List.{map-append}
use Rattle.std.proofs.Common.{◌≡◌, ℕ, ℤ, Bool, true, false, ◌&&◌, ◌||◌, cond, List, [], ◌∷◌, ◌++◌, refl, sym, ◌∙◌, ap, ap₂, subst, map, int_eq}
use mathlib.Core.Path.{fun_ext}
use Rattle.std.proofs.lemmas.Bool.{and_parts, or_from, or_left, or_right, false≢true}
use Rattle.qn_sign.specs.Sign.{is_in, xor}
use Rattle.qn_gauss.specs.Gaussian.{Gaussian, mul_g, signed}
use Rattle.qn_value.specs.Networks.{End, Node, Bond, Assignment, assign, in_end, out_end, sum_below, sums, same_end, word, pairs_of, goal, odd_end, order_sign, twist_sign, sign, values, product, at_values, contract, IsNetwork, labels, relabel, relabel_node, relabel_bond, KeepsApart}
use Rattle.qn_sign.proofs.Order.{is_in-append, is_in-perm}
use Rattle.qn_sign.proofs.Parity.{tally, pairs}
use Rattle.qn_sign.proofs.SignLaws.{turned, pairs-same}
use Rattle.qn_value.proofs.Sums.{label_test}
use Rattle.qn_value.proofs.NetLaws.{end_test, sign-pairs}
use Rattle.qn_sign.proofs.Order.{before-map}
use Rattle.qn_facts.proofs.Booleans.{same_tests}

tally-map : {A B : Type 0} (f : A → B) (p : B → Bool) (xs : List A) → tally p (map f xs) ≡ tally (λ x. p (f x)) xs
tally-map f p [] = refl
tally-map f p (x ∷ xs) = ap (xor (p (f x))) (tally-map f p xs)

pairs-map : {A B : Type 0} (f : A → B) (r : B → B → Bool) (xs : List A) → pairs r (map f xs) ≡ pairs (λ x y. r (f x) (f y)) xs
pairs-map f r [] = refl
pairs-map f r (x ∷ xs) = ap₂ xor (tally-map f (r (f x)) xs) (pairs-map f r xs)

pub word-map : (f : ℤ → ℤ) (ns : List Node) → word (map (relabel_node f) ns) ≡ map (relabel f) (word ns)
word-map f [] = refl
word-map f (n ∷ ns) = ap (λ w. map (relabel f) n.ends ++ w) (word-map f ns) ∙ sym (map-append (relabel f) n.ends (word ns))

pub pairs_of-map : (f : ℤ → ℤ) (bs : List Bond) → pairs_of (map (relabel_bond f) bs) ≡ map (relabel f) (pairs_of bs)
pairs_of-map f [] = refl
pairs_of-map f (b ∷ bs) = ap (λ es. relabel f (in_end b) ∷ relabel f (out_end b) ∷ es) (pairs_of-map f bs)

is_in-map : (f : ℤ → ℤ) (x : End) (es : List End) → is_in same_end x es ≡ true → is_in same_end (relabel f x) (map (relabel f) es) ≡ true
is_in-map f x [] h = h
is_in-map f x (z ∷ es) h = go (same_end x z) refl (is_in-map f x es) h
  where
    go : (b : Bool) → same_end x z ≡ b → (is_in same_end x es ≡ true → is_in same_end (relabel f x) (map (relabel f) es) ≡ true) → (b || is_in same_end x es) ≡ true →
        (same_end (relabel f x) (relabel f z) || is_in same_end (relabel f x) (map (relabel f) es)) ≡ true
    go true e ih k =
        or_left (same_end (relabel f x) (relabel f z)) (is_in same_end (relabel f x) (map (relabel f) es))
        (subst (λ w. same_end (relabel f x) (relabel f w) ≡ true) (end_test.equal x z e) (end_test.itself (relabel f x)))
    go false e ih k = or_right (same_end (relabel f x) (relabel f z)) (is_in same_end (relabel f x) (map (relabel f) es)) (ih k)

-- ends whose images are one are one
one_image : (f : ℤ → ℤ) (es : List End) → KeepsApart f es → (x y : End) → is_in same_end x es ≡ true → is_in same_end y es ≡ true →
    same_end (relabel f x) (relabel f y) ≡ true → same_end x y ≡ true
one_image f [] d x y h k e = absurd (false≢true h)
one_image f (z ∷ es) d x y h k e = go (same_end x z) refl (same_end y z) refl (one_image f es d.1 x y) h k
  where
    clash : (w : End) → is_in same_end w es ≡ true → same_end (relabel f z) (relabel f w) ≡ true → ⊥
    clash w i g =
        false≢true (sym d.0 ∙ subst (λ v. is_in same_end v (map (relabel f) es) ≡ true) (sym (end_test.equal (relabel f z) (relabel f w) g)) (is_in-map f w es i))

    symm : same_end (relabel f y) (relabel f x) ≡ true
    symm = subst (λ v. same_end v (relabel f x) ≡ true) (end_test.equal (relabel f x) (relabel f y) e) (end_test.itself (relabel f x))

    go : (b : Bool) → same_end x z ≡ b → (c : Bool) → same_end y z ≡ c →
        (is_in same_end x es ≡ true → is_in same_end y es ≡ true → same_end (relabel f x) (relabel f y) ≡ true → same_end x y ≡ true) →
        (b || is_in same_end x es) ≡ true → (c || is_in same_end y es) ≡ true → same_end x y ≡ true
    go true p true q ih i j = subst (λ w. same_end x w ≡ true) (end_test.equal x z p ∙ sym (end_test.equal y z q)) (end_test.itself x)
    go true p false q ih i j = absurd (clash y j (subst (λ w. same_end (relabel f w) (relabel f y) ≡ true) (end_test.equal x z p) e))
    go false p true q ih i j = absurd (clash x i (subst (λ w. same_end (relabel f w) (relabel f x) ≡ true) (end_test.equal y z q) symm))
    go false p false q ih i j = ih i j e

module _ (f : ℤ → ℤ) (par : ℤ → ℕ → Bool) (ns : List Node) (bs : List Bond) (opens : List End) (net : IsNetwork ns bs opens) (apart : KeepsApart f (word ns)) where
  -- an assignment of the new labels and one of the old
  abbrev Same : Assignment → Assignment → Type 0
  Same a c = (e : End) → is_in same_end e (word ns) ≡ true → a (relabel f e) ≡ c e

  same_relabel : (x y : End) → is_in same_end x (word ns) ≡ true → is_in same_end y (word ns) ≡ true → same_end (relabel f x) (relabel f y) ≡ same_end x y
  same_relabel x y h k =
      same_tests (same_end (relabel f x) (relabel f y)) (same_end x y) (one_image f (word ns) apart x y h k)
      (λ e. subst (λ w. same_end (relabel f x) (relabel f w) ≡ true) (end_test.equal x y e) (end_test.itself (relabel f x)))

  -- the label of a bond stays different from others
  label_apart : (x : End) (b : Bond) → is_in same_end x (word ns) ≡ true → is_in same_end (in_end b) (word ns) ≡ true → is_in same_end (out_end b) (word ns) ≡ true →
      int_eq (f x.label) (f b.label) ≡ int_eq x.label b.label
  label_apart x b h i o =
      same_tests (int_eq (f x.label) (f b.label)) (int_eq x.label b.label) (there x.label x.inward h)
      (λ e. subst (λ l. int_eq (f x.label) (f l) ≡ true) (label_test.equal x.label b.label e) (label_test.itself (f x.label)))
    where
      there : (l : ℤ) (w : Bool) → is_in same_end (record { label = l; inward = w }) (word ns) ≡ true → int_eq (f l) (f b.label) ≡ true → int_eq l b.label ≡ true
      there l true k e = (and_parts (int_eq l b.label) true (one_image f (word ns) apart (record { label = l; inward = true }) (in_end b) k i (ap (λ p. p && true) e))).0
      there l false k e = (and_parts (int_eq l b.label) true (one_image f (word ns) apart (record { label = l; inward = false }) (out_end b) k o (ap (λ p. p && true) e))).0

  in_word : (e : End) → is_in same_end e (goal bs opens) ≡ true → is_in same_end e (word ns) ≡ true
  in_word e h = is_in-perm same_end e net.complete ∙ h

  order-relabel : (a c : Assignment) → Same a c →
      order_sign par (map (relabel_node f) ns) (map (relabel_bond f) bs) (map (relabel f) opens) a ≡ order_sign (λ l. par (f l)) ns bs opens c
  order-relabel a c s =
      sign-pairs par (map (relabel_node f) ns) (map (relabel_bond f) bs) (map (relabel f) opens) a
      ∙ ap₂ (λ w g. pairs (turned same_end (odd_end par a) w) g) (word-map f ns)
      (ap (λ es. es ++ map (relabel f) opens) (pairs_of-map f bs) ∙ sym (map-append (relabel f) (pairs_of bs) opens))
      ∙ pairs-map (relabel f) (turned same_end (odd_end par a) (map (relabel f) (word ns))) (goal bs opens)
      ∙ pairs-same same_end end_test
      (λ x y. turned same_end (odd_end par a) (map (relabel f) (word ns)) (relabel f x) (relabel f y))
      (turned same_end (odd_end (λ l. par (f l)) c) (word ns)) (goal bs opens)
      (λ x y h k. λ i. (par (f x.label) (s x (in_word x h) i) && par (f y.label) (s y (in_word y k) i)) &&
      before-map same_end same_end (relabel f) y x (word ns) end_test (λ z l. same_relabel y z (in_word y k) l) (λ z l. same_relabel x z (in_word x h) l) i)
      ∙ sym (sign-pairs (λ l. par (f l)) ns bs opens c)

  twist-relabel : (cs : List Bond) (a c : Assignment) → ((e : End) → is_in same_end e (pairs_of cs) ≡ true → a (relabel f e) ≡ c e) →
      twist_sign par (map (relabel_bond f) cs) a ≡ twist_sign (λ l. par (f l)) cs c
  twist-relabel [] a c h = refl
  twist-relabel (b ∷ cs) a c h =
      ap₂ (λ v q. xor (b.twisted && par (f b.label) v) q)
      (h (in_end b) (or_left (same_end (in_end b) (in_end b)) (is_in same_end (in_end b) (out_end b ∷ pairs_of cs)) (end_test.itself (in_end b))))
      (twist-relabel cs a c (λ e k. h e (or_right (same_end e (in_end b)) (is_in same_end e (out_end b ∷ pairs_of cs)) (or_right (same_end e (out_end b)) (is_in same_end e (pairs_of cs)) k))))

  sign-relabel : (a c : Assignment) → Same a c →
      sign par (map (relabel_node f) ns) (map (relabel_bond f) bs) (map (relabel f) opens) a ≡ sign (λ l. par (f l)) ns bs opens c
  sign-relabel a c s =
      ap₂ xor (twist-relabel bs a c (λ e k. s e (in_word e (is_in-append same_end e (pairs_of bs) opens ∙ or_left (is_in same_end e (pairs_of bs)) (is_in same_end e opens) k))))
      (order-relabel a c s)

  values-relabel : (es : List End) (a c : Assignment) → ((e : End) → is_in same_end e es ≡ true → a (relabel f e) ≡ c e) → values (map (relabel f) es) a ≡ values es c
  values-relabel [] a c h = refl
  values-relabel (e ∷ es) a c h =
      ap₂ ◌∷◌ (h e (or_left (same_end e e) (is_in same_end e es) (end_test.itself e)))
      (values-relabel es a c (λ x k. h x (or_right (same_end x e) (is_in same_end x es) k)))

  product-relabel : (ms : List Node) (a c : Assignment) → ((e : End) → is_in same_end e (word ms) ≡ true → a (relabel f e) ≡ c e) → product (map (relabel_node f) ms) a ≡ product ms c
  product-relabel [] a c h = refl
  product-relabel (n ∷ ms) a c h =
      ap₂ mul_g
      (ap n.entry (values-relabel n.ends a c (λ e k. h e (is_in-append same_end e n.ends (word ms) ∙ or_left (is_in same_end e n.ends) (is_in same_end e (word ms)) k))))
      (product-relabel ms a c (λ e k. h e (is_in-append same_end e n.ends (word ms) ∙ or_right (is_in same_end e n.ends) (is_in same_end e (word ms)) k)))

  -- two sums of summands that agree
  sums-relabel : (cs : List Bond) (F G : Assignment → Gaussian) → ((a c : Assignment) → Same a c → F a ≡ G c) →
      ((e : End) → is_in same_end e (pairs_of cs) ≡ true → is_in same_end e (word ns) ≡ true) → (a c : Assignment) →
      ((e : End) → is_in same_end e (word ns) ≡ true → is_in int_eq e.label (labels cs) ≡ false → a (relabel f e) ≡ c e) →
      sums (map (relabel_bond f) cs) F a ≡ sums cs G c
  sums-relabel [] F G h inside a c s = h a c (λ e k. s e k refl)
  sums-relabel (b ∷ cs) F G h inside a c s =
      ap (sum_below b.dim) (fun_ext (λ v. sums-relabel cs F G h
      (λ e k. inside e (or_right (same_end e (in_end b)) (is_in same_end e (out_end b ∷ pairs_of cs)) (or_right (same_end e (out_end b)) (is_in same_end e (pairs_of cs)) k)))
      (assign a (f b.label) v) (assign c b.label v)
      (λ e k l. step v (int_eq (f e.label) (f b.label)) (int_eq e.label b.label) (a (relabel f e)) (c e)
      (label_apart e b k
      (inside (in_end b) (or_left (same_end (in_end b) (in_end b)) (is_in same_end (in_end b) (out_end b ∷ pairs_of cs)) (end_test.itself (in_end b))))
      (inside (out_end b) (or_right (same_end (out_end b) (in_end b)) (is_in same_end (out_end b) (out_end b ∷ pairs_of cs)) (or_left (same_end (out_end b) (out_end b)) (is_in same_end (out_end b) (pairs_of cs)) (end_test.itself (out_end b))))))
      (λ m. s e k (or_from (int_eq e.label b.label) (is_in int_eq e.label (labels cs)) m l)))))
    where
      step : (v : ℕ) (p q : Bool) (x y : ℕ) → p ≡ q → (q ≡ false → x ≡ y) → cond p v x ≡ cond q v y
      step v p true x y e h = ap (λ b. cond b v x) e
      step v p false x y e h = ap (λ b. cond b v x) e ∙ h refl

  pub relabel_law : (xs : List ℕ) →
      (contract par (map (relabel_node f) ns) (map (relabel_bond f) bs) (map (relabel f) opens)).entry xs ≡ (contract (λ l. par (f l)) ns bs opens).entry xs
  relabel_law xs =
      sums-relabel bs
      (λ c. signed (sign par (map (relabel_node f) ns) (map (relabel_bond f) bs) (map (relabel f) opens) c) (product (map (relabel_node f) ns) c))
      (λ c. signed (sign (λ l. par (f l)) ns bs opens c) (product ns c))
      (λ a c s. ap₂ signed (sign-relabel a c s) (product-relabel ns a c s))
      (λ e k. in_word e (is_in-append same_end e (pairs_of bs) opens ∙ or_left (is_in same_end e (pairs_of bs)) (is_in same_end e opens) k))
      (at_values (map (relabel f) opens) xs) (at_values opens xs)
      (λ e k l. at_open opens (λ z m. in_word z (is_in-append same_end z (pairs_of bs) opens ∙ or_right (is_in same_end z (pairs_of bs)) (is_in same_end z opens) m)) xs e k)
    where
      at_open : (os : List End) → ((z : End) → is_in same_end z os ≡ true → is_in same_end z (word ns) ≡ true) → (ys : List ℕ) (e : End) → is_in same_end e (word ns) ≡ true →
          at_values (map (relabel f) os) ys (relabel f e) ≡ at_values os ys e
      at_open [] h ys e k = refl
      at_open (o ∷ os) h [] e k = refl
      at_open (o ∷ os) h (y ∷ ys) e k =
          ap₂ (λ b r. cond b y r) (same_relabel e o k (h o (or_left (same_end o o) (is_in same_end o os) (end_test.itself o))))
          (at_open os (λ z m. h z (or_right (same_end z o) (is_in same_end z os) m)) ys e k)
