-- The network of an expectation has the labels of its sites.
use Rattle.std.proofs.Common.{◌≡◌, ℕ, suc, ◌+◌, ◌-◌, ◌*◌, ◌<◌, ◌≤◌, ◌==◌, ℤ, pos, Bool, true, false, ◌||◌, ◌&&◌, not, cond, List, [], ◌∷◌, length, reverse, refl, sym, ◌∙◌, ap, int_eq, arith, zero, ◌++◌}
use Rattle.std.specs.Prelude.{nat_lt}
use Rattle.std.proofs.lemmas.Bool.Decides.{nat_tests}
use Rattle.qn_sign.specs.Sign.{is_in}
use Rattle.qn_value.specs.Labels.{is_positive}
use Rattle.qn_sign.proofs.Order.{is_in-perm}
use Rattle.qn_value.specs.Networks.{labels}
use Rattle.qn_block.specs.Blocked.{BlockedValue}
use Rattle.qn_net.specs.Members.{LabelledMember}
use Rattle.qn_braket.specs.ChainLabels.{left_label, right_label, state_labels, operator_labels, expect_upper, expect_lower, expect_bra, expect_op, expect_ket}
use Rattle.qn_braket.specs.Chains.{back_with_labels, expect_members, with_labels}
use Rattle.qn_braket.proofs.Back.{perm_reverse}
use Rattle.qn_braket.proofs.Chained.{pos_test}
use Rattle.qn_sweep.proofs.Profiles.{bra_has, op_has, ket_has, from, bra_first, op_first, ket_first}
use Rattle.qn_sweep.proofs.Walk.{lab, AreSites}
use Rattle.qn_sweep.proofs.Sites.{AreNumbered}
use Rattle.qn_sweep.proofs.Labelled.{ArePositive, HavePositive, positive-append, positives-both, positives-back, positive-reverse, starts, down, HaveLabels, stands_on, any_has}

-- lists of two, three and four labels, the last of which may be missing

one_or_two : (l x y : ℤ) (b : Bool) → is_in int_eq l (x ∷ cond b [] (y ∷ [])) ≡ (int_eq l x || (not b && int_eq l y))
one_or_two l x y true = grind arith
one_or_two l x y false = grind arith

two_or_three : (l x y z : ℤ) (b : Bool) → is_in int_eq l (x ∷ y ∷ cond b [] (z ∷ [])) ≡ (int_eq l x || (int_eq l y || (not b && int_eq l z)))
two_or_three l x y z true = grind arith
two_or_three l x y z false = grind arith

three_or_four : (l w x y z : ℤ) (b : Bool) → is_in int_eq l (w ∷ x ∷ y ∷ cond b [] (z ∷ [])) ≡ (int_eq l w || (int_eq l x || (int_eq l y || (not b && int_eq l z))))
three_or_four l w x y z true = grind arith
three_or_four l w x y z false = grind arith

reversed : (l : ℤ) (ls : List ℤ) → is_in int_eq l (reverse ls) ≡ is_in int_eq l ls
reversed l ls = sym (is_in-perm int_eq l (perm_reverse ls))

-- the labels of a site in the network on n sites, where q labels are positive

module _ (n q : ℕ) (e : q + 3 ≡ 5 * n) where
  module _ (i : ℕ) (lt : suc i < n) (y : ℕ) where
    bra_labels : is_in int_eq (lab y) (reverse (state_labels expect_upper expect_bra n (suc i))) ≡ bra_has (5 * i + 2) q y
    bra_labels =
        reversed (lab y) (state_labels expect_upper expect_bra n (suc i))
        ∙ two_or_three (lab y) (expect_bra i) (expect_upper (suc i)) (expect_bra (suc i)) (suc (suc i) == n)
        ∙ (λ t. pos_test (suc y) (5 * i + 3) t || (pos_test (suc y) (5 * suc i + 1) t || (not (suc (suc i) == n) && pos_test (suc y) (5 * suc i + 3) t)))
        ∙ numbers n q i y e lt
      where
        numbers : (n q i y : ℕ) → q + 3 ≡ 5 * n → suc i < n →
            ((suc y == 5 * i + 3) || ((suc y == 5 * suc i + 1) || (not (suc (suc i) == n) && (suc y == 5 * suc i + 3)))) ≡ bra_has (5 * i + 2) q y
        numbers n q i y e lt = grind (arith, nat_tests)

    op_labels : is_in int_eq (lab y) (operator_labels expect_upper expect_lower expect_op n (suc i)) ≡ op_has (5 * i + 2) q y
    op_labels =
        three_or_four (lab y) (expect_op i) (expect_upper (suc i)) (expect_lower (suc i)) (expect_op (suc i)) (suc (suc i) == n)
        ∙ (λ t. pos_test (suc y) (5 * i + 4) t || (pos_test (suc y) (5 * suc i + 1) t || (pos_test (suc y) (5 * suc i + 2) t || (not (suc (suc i) == n) && pos_test (suc y) (5 * suc i + 4) t))))
        ∙ numbers n q i y e lt
      where
        numbers : (n q i y : ℕ) → q + 3 ≡ 5 * n → suc i < n →
            ((suc y == 5 * i + 4) || ((suc y == 5 * suc i + 1) || ((suc y == 5 * suc i + 2) || (not (suc (suc i) == n) && (suc y == 5 * suc i + 4))))) ≡ op_has (5 * i + 2) q y
        numbers n q i y e lt = grind (arith, nat_tests)

    ket_labels : is_in int_eq (lab y) (state_labels expect_lower expect_ket n (suc i)) ≡ ket_has (5 * i + 2) q y
    ket_labels =
        two_or_three (lab y) (expect_ket i) (expect_lower (suc i)) (expect_ket (suc i)) (suc (suc i) == n)
        ∙ (λ t. pos_test (suc y) (5 * i + 5) t || (pos_test (suc y) (5 * suc i + 2) t || (not (suc (suc i) == n) && pos_test (suc y) (5 * suc i + 5) t)))
        ∙ numbers n q i y e lt
      where
        numbers : (n q i y : ℕ) → q + 3 ≡ 5 * n → suc i < n →
            ((suc y == 5 * i + 5) || ((suc y == 5 * suc i + 2) || (not (suc (suc i) == n) && (suc y == 5 * suc i + 5)))) ≡ ket_has (5 * i + 2) q y
        numbers n q i y e lt = grind (arith, nat_tests)

  module _ (lt : 0 < n) (y : ℕ) where
    pub bra_start : is_in int_eq (lab y) (reverse (state_labels expect_upper expect_bra n 0)) ≡ bra_first q y
    bra_start =
        reversed (lab y) (state_labels expect_upper expect_bra n 0)
        ∙ one_or_two (lab y) (expect_upper 0) (expect_bra 0) (1 == n) ∙ (λ t. pos_test (suc y) 1 t || (not (1 == n) && pos_test (suc y) 3 t)) ∙ numbers n q y e lt
      where
        numbers : (n q y : ℕ) → q + 3 ≡ 5 * n → 0 < n → ((suc y == 1) || (not (1 == n) && (suc y == 3))) ≡ bra_first q y
        numbers n q y e lt = grind (arith, nat_tests)

    pub op_start : is_in int_eq (lab y) (operator_labels expect_upper expect_lower expect_op n 0) ≡ op_first q y
    op_start =
        two_or_three (lab y) (expect_upper 0) (expect_lower 0) (expect_op 0) (1 == n) ∙ (λ t. pos_test (suc y) 1 t || (pos_test (suc y) 2 t || (not (1 == n) && pos_test (suc y) 4 t))) ∙ numbers n q y e lt
      where
        numbers : (n q y : ℕ) → q + 3 ≡ 5 * n → 0 < n → ((suc y == 1) || ((suc y == 2) || (not (1 == n) && (suc y == 4)))) ≡ op_first q y
        numbers n q y e lt = grind (arith, nat_tests)

    pub ket_start : is_in int_eq (lab y) (state_labels expect_lower expect_ket n 0) ≡ ket_first q y
    ket_start =
        one_or_two (lab y) (expect_lower 0) (expect_ket 0) (1 == n) ∙ (λ t. pos_test (suc y) 2 t || (not (1 == n) && pos_test (suc y) 5 t)) ∙ numbers n q y e lt
      where
        numbers : (n q y : ℕ) → q + 3 ≡ 5 * n → 0 < n → ((suc y == 2) || (not (1 == n) && (suc y == 5))) ≡ ket_first q y
        numbers n q y e lt = grind (arith, nat_tests)

-- the members of the sites from j on

abbrev pub bras : ℕ → ℕ → List BlockedValue → List LabelledMember
bras n j ts = with_labels (λ k. reverse (state_labels expect_upper expect_bra n k)) j ts

abbrev pub ops : ℕ → ℕ → List BlockedValue → List LabelledMember
ops n j ts = with_labels (operator_labels expect_upper expect_lower expect_op n) j ts

abbrev pub kets : ℕ → ℕ → List BlockedValue → List LabelledMember
kets n j ts = with_labels (state_labels expect_lower expect_ket n) j ts

pub with_long : (labels : ℕ → List ℤ) (j : ℕ) (ts : List BlockedValue) → length (with_labels labels j ts) ≡ length ts
with_long labels j [] = refl
with_long labels j (t ∷ ts) = ap suc (with_long labels (suc j) ts)

module _ (n q : ℕ) (e : q + 3 ≡ 5 * n) where
  pub sites : (i : ℕ) (bs os ks : List BlockedValue) (p a b : ℕ) → p ≡ 5 * i + 2 → length bs + suc i ≡ n → length os ≡ length bs → length ks ≡ length bs →
      HaveLabels (bras n (suc i) bs) → HaveLabels (ops n (suc i) os) → HaveLabels (kets n (suc i) ks) →
      AreSites p q (down (bras n (suc i) bs)) (starts a (ops n (suc i) os)) (starts b (kets n (suc i) ks))
  sites i [] [] [] p a b z l lo lk hb ho hk = omega (arith, e, z, l)
  sites i [] [] (k ∷ ks) p a b z l lo lk hb ho hk = absurd (omega (arith, lk))
  sites i [] (o ∷ os) ks p a b z l lo lk hb ho hk = absurd (omega (arith, lo))
  sites i (c ∷ bs) [] ks p a b z l lo lk hb ho hk = absurd (omega (arith, lo))
  sites i (c ∷ bs) (o ∷ os) [] p a b z l lo lk hb ho hk = absurd (omega (arith, lk))
  sites i (c ∷ bs) (o ∷ os) (k ∷ ks) p a b z l lo lk hb ho hk =
      let lt : suc i < n = omega (arith, l) in (
        record {
          bra = λ y. stands_on (lab y) c.legs (reverse (state_labels expect_upper expect_bra n (suc i))) hb.0 ∙ bra_labels n q e i lt y ∙ ap (λ x. bra_has x q y) (sym z);
          op = λ y. stands_on (lab y) o.legs (operator_labels expect_upper expect_lower expect_op n (suc i)) ho.0 ∙ op_labels n q e i lt y ∙ ap (λ x. op_has x q y) (sym z);
          ket = λ y. stands_on (lab y) k.legs (state_labels expect_lower expect_ket n (suc i)) hk.0 ∙ ket_labels n q e i lt y ∙ ap (λ x. ket_has x q y) (sym z);
        },
        sites (suc i) bs os ks (p + 5) (suc a) (suc b) (omega (arith, z)) (omega (arith, l)) (omega (arith, lo)) (omega (arith, lk)) hb.1 ho.1 hk.1,
      )

  -- all labels of the sites from there on
  any_site : (i : ℕ) (bs os ks : List BlockedValue) (p y : ℕ) → p ≡ 5 * i + 2 → length bs + suc i ≡ n → length os ≡ length bs → length ks ≡ length bs →
      (any_has (lab y) (bras n (suc i) bs) || (any_has (lab y) (ops n (suc i) os) || any_has (lab y) (kets n (suc i) ks))) ≡ from p q y
  any_site i [] [] [] p y z l lo lk = nothing n q i p y e z l
    where
      nothing : (n q i p y : ℕ) → q + 3 ≡ 5 * n → p ≡ 5 * i + 2 → 0 + suc i ≡ n → false ≡ from p q y
      nothing n q i p y e z l = grind (arith, nat_tests)
  any_site i [] [] (k ∷ ks) p y z l lo lk = absurd (omega (arith, lk))
  any_site i [] (o ∷ os) ks p y z l lo lk = absurd (omega (arith, lo))
  any_site i (c ∷ bs) [] ks p y z l lo lk = absurd (omega (arith, lo))
  any_site i (c ∷ bs) (o ∷ os) [] p y z l lo lk = absurd (omega (arith, lk))
  any_site i (c ∷ bs) (o ∷ os) (k ∷ ks) p y z l lo lk =
      let lt : suc i < n = omega (arith, l) in
      let ih = any_site (suc i) bs os ks (p + 5) y (omega (arith, z)) (omega (arith, l)) (omega (arith, lo)) (omega (arith, lk)) in
      turn (is_in int_eq (lab y) (reverse (state_labels expect_upper expect_bra n (suc i)))) (any_has (lab y) (bras n (suc (suc i)) bs))
      (is_in int_eq (lab y) (operator_labels expect_upper expect_lower expect_op n (suc i))) (any_has (lab y) (ops n (suc (suc i)) os))
      (is_in int_eq (lab y) (state_labels expect_lower expect_ket n (suc i))) (any_has (lab y) (kets n (suc (suc i)) ks))
      (bra_has p q y) (op_has p q y) (ket_has p q y) (from (p + 5) q y)
      (bra_labels n q e i lt y ∙ ap (λ x. bra_has x q y) (sym z)) (op_labels n q e i lt y ∙ ap (λ x. op_has x q y) (sym z)) (ket_labels n q e i lt y ∙ ap (λ x. ket_has x q y) (sym z)) ih
      ∙ numbers p q y (room n q i p e z lt)
    where
      turn : (a x b v c w f g h r : Bool) → a ≡ f → b ≡ g → c ≡ h → (x || (v || w)) ≡ r → ((a || x) || ((b || v) || (c || w))) ≡ (f || (g || (h || r)))
      turn a x b v c w f g h r p q s t = grind arith

      room : (n q i p : ℕ) → q + 3 ≡ 5 * n → p ≡ 5 * i + 2 → suc i < n → p + 5 ≤ q
      room n q i p e z lt = omega (arith, e, z, lt)

      numbers : (p q y : ℕ) → p + 5 ≤ q → (bra_has p q y || (op_has p q y || (ket_has p q y || from (p + 5) q y))) ≡ from p q y
      numbers p q y h = grind (arith, nat_tests)

  pub any_all : (c o k : BlockedValue) (bs os ks : List BlockedValue) (y : ℕ) → length bs + 1 ≡ n → length os ≡ length bs → length ks ≡ length bs →
      (any_has (lab y) (bras n 0 (c ∷ bs)) || (any_has (lab y) (ops n 0 (o ∷ os)) || any_has (lab y) (kets n 0 (k ∷ ks)))) ≡ nat_lt y q
  any_all c o k bs os ks y l lo lk =
      let lt : 0 < n = omega (arith, l) in
      turn (is_in int_eq (lab y) (reverse (state_labels expect_upper expect_bra n 0))) (any_has (lab y) (bras n 1 bs))
      (is_in int_eq (lab y) (operator_labels expect_upper expect_lower expect_op n 0)) (any_has (lab y) (ops n 1 os))
      (is_in int_eq (lab y) (state_labels expect_lower expect_ket n 0)) (any_has (lab y) (kets n 1 ks))
      (bra_first q y) (op_first q y) (ket_first q y) (from 2 q y)
      (bra_start n q e lt y) (op_start n q e lt y) (ket_start n q e lt y) (any_site 0 bs os ks 2 y refl l lo lk)
      ∙ numbers n q y e lt
    where
      turn : (a x b v c w f g h r : Bool) → a ≡ f → b ≡ g → c ≡ h → (x || (v || w)) ≡ r → ((a || x) || ((b || v) || (c || w))) ≡ (f || (g || (h || r)))
      turn a x b v c w f g h r p q s t = grind arith

      numbers : (n q y : ℕ) → q + 3 ≡ 5 * n → 0 < n → (bra_first q y || (op_first q y || (ket_first q y || from 2 q y))) ≡ nat_lt y q
      numbers n q y e lt = grind (arith, nat_tests)

-- the numbers of the tensors

or_none : (b : Bool) → (b || false) ≡ b
or_none b = grind arith

pub numbered : (n j : ℕ) (bs os ks : List BlockedValue) (a b : ℕ) → length bs + j ≡ n → length os ≡ length bs → length ks ≡ length bs → a ≡ n + j + 1 → b ≡ 2 * n + j + 1 →
    AreNumbered n j (down (bras n j bs)) (starts a (ops n j os)) (starts b (kets n j ks))
numbered n j [] [] [] a b l lo lk ea eb = tt
numbered n j [] [] (k ∷ ks) a b l lo lk ea eb = absurd (omega (arith, lk))
numbered n j [] (o ∷ os) ks a b l lo lk ea eb = absurd (omega (arith, lo))
numbered n j (c ∷ bs) [] ks a b l lo lk ea eb = absurd (omega (arith, lo))
numbered n j (c ∷ bs) (o ∷ os) [] a b l lo lk ea eb = absurd (omega (arith, lk))
numbered n j (c ∷ bs) (o ∷ os) (k ∷ ks) a b l lo lk ea eb = (
  record {
    bra = λ test. or_none (test (suc (length (bras n (suc j) bs)))) ∙ ap test (ap suc (with_long (λ i. reverse (state_labels expect_upper expect_bra n i)) (suc j) bs) ∙ here (length bs) l);
    op = λ test. or_none (test a) ∙ ap test ea;
    ket = λ test. or_none (test b) ∙ ap test eb;
  },
  numbered n (suc j) bs os ks (suc a) (suc b) (omega (arith, l)) (omega (arith, lo)) (omega (arith, lk)) (omega (arith, ea)) (omega (arith, eb)),
)
  where
    here : (x : ℕ) → suc x + j ≡ n → suc x ≡ n - j
    here x h = omega (arith, h)

-- all labels are positive

positive_number : (j k : ℕ) → (k == 0) ≡ false → is_positive (pos (5 * j + k)) ≡ true
positive_number j k e = grind (arith, nat_tests)

positive_right : (link : ℕ → ℤ) (n j : ℕ) → is_positive (link j) ≡ true → ArePositive (right_label link n j)
positive_right link n j h = go (suc j == n)
  where
    go : (b : Bool) → ArePositive (cond b [] (link j ∷ []))
    go true = tt
    go false = (h, tt)

positive_left : (link : ℕ → ℤ) (j : ℕ) → ((i : ℕ) → is_positive (link i) ≡ true) → ArePositive (left_label link j)
positive_left link zero h = tt
positive_left link (suc j) h = (h j, tt)

positive_state : (site link : ℕ → ℤ) (n j : ℕ) → ((i : ℕ) → is_positive (site i) ≡ true) → ((i : ℕ) → is_positive (link i) ≡ true) → ArePositive (state_labels site link n j)
positive_state site link n j hs hl = positive-append (left_label link j) (site j ∷ right_label link n j) (positive_left link j hl) (hs j, positive_right link n j (hl j))

positive_operator : (n j : ℕ) → ArePositive (operator_labels expect_upper expect_lower expect_op n j)
positive_operator n j =
    positive-append (left_label expect_op j) (expect_upper j ∷ expect_lower j ∷ right_label expect_op n j) (positive_left expect_op j (λ i. positive_number i 4 refl))
    (positive_number j 1 refl, (positive_number j 2 refl, positive_right expect_op n j (positive_number j 4 refl)))

positive_with : (labels : ℕ → List ℤ) → ((j : ℕ) → ArePositive (labels j)) → (j : ℕ) (ts : List BlockedValue) → HavePositive (with_labels labels j ts)
positive_with labels h j [] = tt
positive_with labels h j (t ∷ ts) = (h j, positive_with labels h (suc j) ts)

pub all_positive : (cs os ks : List BlockedValue) → HavePositive (expect_members cs os ks)
all_positive cs os ks =
    positives-both (back_with_labels (state_labels expect_upper expect_bra (length cs)) cs)
    (with_labels (operator_labels expect_upper expect_lower expect_op (length os)) 0 os ++ with_labels (state_labels expect_lower expect_ket (length ks)) 0 ks)
    (positives-back (with_labels (λ j. reverse (state_labels expect_upper expect_bra (length cs) j)) 0 cs)
    (positive_with (λ j. reverse (state_labels expect_upper expect_bra (length cs) j))
    (λ j. positive-reverse (state_labels expect_upper expect_bra (length cs) j) (positive_state expect_upper expect_bra (length cs) j (λ i. positive_number i 1 refl) (λ i. positive_number i 3 refl))) 0 cs))
    (positives-both (with_labels (operator_labels expect_upper expect_lower expect_op (length os)) 0 os) (with_labels (state_labels expect_lower expect_ket (length ks)) 0 ks)
    (positive_with (operator_labels expect_upper expect_lower expect_op (length os)) (positive_operator (length os)) 0 os)
    (positive_with (state_labels expect_lower expect_ket (length ks)) (λ j. positive_state expect_lower expect_ket (length ks) j (λ i. positive_number i 2 refl) (λ i. positive_number i 5 refl)) 0 ks))
