-- The conjugate of a network has the conjugate value.
use Rattle.std.proofs.Common.{◌≡◌, ℕ, zero, suc, ℤ, Bool, true, false, not, ◌&&◌, ◌||◌, List, [], ◌∷◌, ◌++◌, refl, sym, ◌∙◌, ap, ap₂, subst, append_assoc, append-nil, map, reverse, int_eq}
use mathlib.Core.Path.{fun_ext}
use Rattle.std.proofs.lemmas.Bool.{false≢true}
use Rattle.std.proofs.lemmas.List.{map-append, reverse-append, reverse-reverse}
use Rattle.qn_sign.specs.Sign.{xor, is_in, exchange_sign, is_odd, IsDistinct, Perm}
use Rattle.qn_sign.specs.Sign.Perm.{then_by}
use Rattle.qn_gauss.specs.Gaussian.{Gaussian, add_g, mul_g, conj_g, signed}
use Rattle.qn_value.specs.Networks.{End, Node, Bond, Assignment, assign, sum_below, out_end, sums, same_bool, same_end, word, pairs_of, goal, odd_end, order_sign, twist_sign, sign, values, product, flat, IsNetwork}
use Rattle.qn_sign.proofs.Parity.{tally, pairs, perm-sym}
use Rattle.qn_sign.proofs.Order.{is_in-append, is_in-perm, distinct-perm, distinct_first}
use Rattle.qn_sign.proofs.SignLaws.{turned, goal_exchange}
use Rattle.qn_sign.proofs.Names.{names_do_not_matter}
use Rattle.qn_gauss.proofs.Ring.{mul_comm, mul_one}
use Rattle.qn_gauss.proofs.Conjugate.{conj_add, conj_mul, conj_one, conj_zero}
use Rattle.qn_gauss.proofs.Signs.{conj-signed}
use Rattle.qn_value.proofs.Sums.{perm-map, Meets, sums-meet, sums-perm}
use Rattle.qn_value.proofs.Steps.{order_law, order_network}
use Rattle.qn_value.proofs.NetLaws.{end_test, word-append, product-append, sign-pairs, exchanges-pairs, labels_distinct, pairs_of-append, bonds_even, perm_turn, twist-perm}
use Rattle.qn_block.proofs.Mirror.{reverse_cons}
use Rattle.qn_braket.specs.Conjugates.{flip, across, conj_ends, conj_node, conj_nodes}
use Rattle.qn_braket.specs.Brakets.{outs}
use Rattle.qn_braket.proofs.Back.{reverse-map, perm_reverse, back_word}

-- sums of conjugates

pub conj-sum : (n : ℕ) (f : ℕ → Gaussian) → sum_below n (λ v. conj_g (f v)) ≡ conj_g (sum_below n f)
conj-sum zero f = sym conj_zero
conj-sum (suc n) f = ap (λ x. add_g x (conj_g (f n))) (conj-sum n f) ∙ sym (conj_add (sum_below n f) (f n))

pub conj-sums : (bs : List Bond) (f : Assignment → Gaussian) (a : Assignment) → sums bs (λ c. conj_g (f c)) a ≡ conj_g (sums bs f a)
conj-sums [] f a = refl
conj-sums (b ∷ bs) f a = ap (sum_below b.dim) (fun_ext (λ v. conj-sums bs f (assign a b.label v))) ∙ conj-sum b.dim (λ v. sums bs f (assign a b.label v))

-- the legs of the conjugate

pub conj_ends-append : (xs ys : List End) → conj_ends (xs ++ ys) ≡ conj_ends ys ++ conj_ends xs
conj_ends-append xs ys = ap reverse (map-append flip xs ys) ∙ reverse-append (map flip xs) (map flip ys)

pub conj_ends_cons : (e : End) (es : List End) → conj_ends (e ∷ es) ≡ conj_ends es ++ flip e ∷ []
conj_ends_cons e es = reverse_cons (flip e) (map flip es)

couple_back : (b : Bond) (es : List End) → conj_ends (record { label = b.label; inward = true } ∷ record { label = b.label; inward = false } ∷ es) ≡
    (conj_ends es ++ record { label = b.label; inward = true } ∷ []) ++ record { label = b.label; inward = false } ∷ []
couple_back b es =
    conj_ends_cons (record { label = b.label; inward = true }) (record { label = b.label; inward = false } ∷ es)
    ∙ ap (λ zs. zs ++ record { label = b.label; inward = false } ∷ []) (conj_ends_cons (record { label = b.label; inward = false }) es)

-- the two ends of a bond change places twice
pub conj_pairs : (bs : List Bond) → conj_ends (pairs_of bs) ≡ pairs_of (reverse bs)
conj_pairs [] = refl
conj_pairs (b ∷ bs) =
    couple_back b (pairs_of bs)
    ∙ append_assoc (conj_ends (pairs_of bs)) (record { label = b.label; inward = true } ∷ []) (record { label = b.label; inward = false } ∷ [])
    ∙ ap (λ es. es ++ record { label = b.label; inward = true } ∷ record { label = b.label; inward = false } ∷ []) (conj_pairs bs)
    ∙ sym (pairs_of-append (reverse bs) (b ∷ []))
    ∙ ap pairs_of (sym (reverse_cons b bs))

pub conj_nodes_cons : (n : Node) (ns : List Node) → conj_nodes (n ∷ ns) ≡ conj_nodes ns ++ conj_node n ∷ []
conj_nodes_cons n ns = reverse_cons (conj_node n) (map conj_node ns)

pub conj_word : (ns : List Node) → word (conj_nodes ns) ≡ conj_ends (word ns)
conj_word [] = refl
conj_word (n ∷ ns) =
    ap word (conj_nodes_cons n ns)
    ∙ word-append (conj_nodes ns) (conj_node n ∷ [])
    ∙ ap₂ (λ u v. u ++ v) (conj_word ns) (append-nil (conj_ends n.ends))
    ∙ sym (conj_ends-append n.ends (word ns))

pub conj_values : (es : List End) (c : Assignment) → values (conj_ends es) c ≡ reverse (values es (across c))
conj_values es c = sym (reverse-map c (map flip es)) ∙ ap reverse (same_lines es)
  where
    same_lines : (es : List End) → values (map flip es) c ≡ values es (across c)
    same_lines [] = refl
    same_lines (e ∷ es) = ap (λ vs. c (flip e) ∷ vs) (same_lines es)

pub conj_product : (ns : List Node) (c : Assignment) → product (conj_nodes ns) c ≡ conj_g (product ns (across c))
conj_product [] c = sym conj_one
conj_product (n ∷ ns) c =
    ap (λ ms. product ms c) (conj_nodes_cons n ns)
    ∙ product-append (conj_nodes ns) (conj_node n ∷ []) c
    ∙ ap₂ mul_g (conj_product ns c)
    (mul_one (conj_g (n.entry (reverse (values (conj_ends n.ends) c))))
    ∙ ap (λ vs. conj_g (n.entry vs)) (ap reverse (conj_values n.ends c) ∙ reverse-reverse (values n.ends (across c))))
    ∙ mul_comm (conj_g (product ns (across c))) (conj_g (n.entry (values n.ends (across c))))
    ∙ sym (conj_mul (n.entry (values n.ends (across c))) (product ns (across c)))

-- the values at the other ends

-- where the two ends of each bond have one value, it is that of the other end
pub meets_across : (bs : List Bond) (c : Assignment) → Meets bs c → (e : End) → is_in same_end e (outs bs) ≡ true → across c e ≡ c e
meets_across [] c m e h = absurd (false≢true h)
meets_across (b ∷ bs) c m e h = go (same_end e (out_end b)) refl h (meets_across bs c m.1 e)
  where
    go : (p : Bool) → same_end e (out_end b) ≡ p → (p || is_in same_end e (outs bs)) ≡ true → (is_in same_end e (outs bs) ≡ true → across c e ≡ c e) → across c e ≡ c e
    go true f k ih = subst (λ x. across c x ≡ c x) (sym (end_test.equal e (out_end b) f)) m.0
    go false f k ih = ih k

sums_across : (bs : List Bond) (f : Assignment → Gaussian) (a : Assignment) → sums bs (λ c. f (across c)) a ≡ sums bs f (across a)
sums_across [] f a = refl
sums_across (b ∷ bs) f a = ap (sum_below b.dim) (fun_ext (λ v. sums_across bs f (assign a b.label v)))

twist_across : (par : ℤ → ℕ → Bool) (bs : List Bond) (c : Assignment) → Meets bs c → twist_sign par bs c ≡ twist_sign par bs (across c)
twist_across par [] c m = refl
twist_across par (b ∷ bs) c m = ap₂ (λ v t. xor (b.twisted && par b.label v) t) m.0 (twist_across par bs c m.1)

-- the sign of the conjugate

flip_same : (x y : End) → same_end (flip x) (flip y) ≡ same_end x y
flip_same x y = ap (λ b. int_eq x.label y.label && b) (both x.inward y.inward)
  where
    both : (a b : Bool) → same_bool (not a) (not b) ≡ same_bool a b
    both true true = refl
    both true false = refl
    both false true = refl
    both false false = refl

is_in-flip : (x : End) (es : List End) → is_in same_end (flip x) (map flip es) ≡ is_in same_end x es
is_in-flip x [] = refl
is_in-flip x (e ∷ es) = ap₂ ◌||◌ (flip_same x e) (is_in-flip x es)

flip_distinct : (es : List End) → IsDistinct same_end es → IsDistinct same_end (map flip es)
flip_distinct [] d = tt
flip_distinct (e ∷ es) d = (is_in-flip e es ∙ d.0, flip_distinct es d.1)

pub conj_distinct : (es : List End) → IsDistinct same_end es → IsDistinct same_end (conj_ends es)
conj_distinct es d = distinct-perm same_end end_test (perm_reverse (map flip es)) (flip_distinct es d)

pub conj_perm : {xs ys : List End} → Perm xs ys → Perm (conj_ends xs) (conj_ends ys)
conj_perm {xs = xs} {ys = ys} m = then_by (perm-sym (perm_reverse (map flip xs))) (then_by (perm-map flip m) (perm_reverse (map flip ys)))

flip_sign : (par : ℤ → ℕ → Bool) (a : Assignment) (w g : List End) →
    exchange_sign same_end (odd_end par a) (map flip w) (map flip g) ≡ exchange_sign same_end (odd_end par (across a)) w g
flip_sign par a w g = ap is_odd (names_do_not_matter same_end same_end end_test flip (odd_end par a) w g (λ x y h k. flip_same x y))

-- an even part of the goal may stand first or last
swap_even : (odd : End → Bool) (w u v : List End) → tally odd u ≡ false → IsDistinct same_end (u ++ v) →
    ((x : End) → is_in same_end x u ≡ true → is_in same_end x w ≡ true) →
    pairs (turned same_end odd w) (u ++ v) ≡ pairs (turned same_end odd w) (v ++ u)
swap_even odd w u v even d inside =
    ap (λ q. pairs (turned same_end odd w) (u ++ q)) (sym (append-nil v))
    ∙ goal_exchange same_end end_test odd w [] u v [] (subst (λ q. IsDistinct same_end (u ++ q)) (sym (append-nil v)) d) inside
    ∙ ap (λ q. xor (tally odd u && tally odd v) (pairs (turned same_end odd w) (v ++ q))) (append-nil u)
    ∙ ap (λ b. xor (b && tally odd v) (pairs (turned same_end odd w) (v ++ u))) even

module _ (ns : List Node) (bs : List Bond) (opens : List End) (net : IsNetwork ns bs opens) where
  goal_distinct : IsDistinct same_end (goal bs opens)
  goal_distinct = distinct-perm same_end end_test net.complete net.distinct

  back_net : IsNetwork ns (reverse bs) opens
  back_net = order_network ns bs (reverse bs) opens net (perm_reverse bs)

  -- the goal with the bonds the other way round, read backward
  goal_back : conj_ends (goal (reverse bs) opens) ≡ conj_ends opens ++ pairs_of bs
  goal_back =
      conj_ends-append (pairs_of (reverse bs)) opens ∙ ap (λ es. conj_ends opens ++ es) (conj_pairs (reverse bs) ∙ ap pairs_of (reverse-reverse bs))

  back_goal : Perm (conj_ends (word ns)) (conj_ends opens ++ pairs_of bs)
  back_goal = subst (Perm (conj_ends (word ns))) goal_back (conj_perm back_net.complete)

  word_goal : Perm (conj_ends (word ns)) (goal bs (conj_ends opens))
  word_goal = then_by back_goal (perm_turn (conj_ends opens) (pairs_of bs))

  back_distinct : IsDistinct same_end (conj_ends (word ns))
  back_distinct = conj_distinct (word ns) net.distinct

  pub conj_network : IsNetwork (conj_nodes ns) bs (conj_ends opens)
  conj_network = record {
    distinct = subst (IsDistinct same_end) (sym (conj_word ns)) back_distinct;
    complete = subst (λ w. Perm w (goal bs (conj_ends opens))) (sym (conj_word ns)) word_goal;
  }

  module _ (par : ℤ → ℕ → Bool) where
    conj_order : (a : Assignment) → Meets bs a → order_sign par (conj_nodes ns) bs (conj_ends opens) a ≡ order_sign par ns (reverse bs) opens (across a)
    conj_order a m =
        sign-pairs par (conj_nodes ns) bs (conj_ends opens) a
        ∙ ap (λ w. pairs (turned same_end (odd_end par a) w) (pairs_of bs ++ conj_ends opens)) (conj_word ns)
        ∙ swap_even (odd_end par a) (conj_ends (word ns)) (pairs_of bs) (conj_ends opens) (bonds_even par a bs m)
        (distinct-perm same_end end_test word_goal back_distinct)
        (λ x k. is_in-perm same_end x word_goal ∙ first x (pairs_of bs) (conj_ends opens) k)
        ∙ ap (pairs (turned same_end (odd_end par a) (conj_ends (word ns)))) (sym goal_back)
        ∙ back_word same_end end_test (odd_end par a) (map flip (word ns)) (map flip (goal (reverse bs) opens))
        (flip_distinct (word ns) net.distinct) (flip_distinct (goal (reverse bs) opens) (distinct-perm same_end end_test back_net.complete net.distinct)) (perm-map flip back_net.complete)
        ∙ sym (exchanges-pairs same_end (odd_end par a) (map flip (word ns)) (map flip (goal (reverse bs) opens)))
        ∙ flip_sign par a (word ns) (goal (reverse bs) opens)
      where
        first : (x : End) (u v : List End) → is_in same_end x u ≡ true → is_in same_end x (u ++ v) ≡ true
        first x u v k = is_in-append same_end x u v ∙ ap (λ b. b || is_in same_end x v) k

    conj_sign : (a : Assignment) → Meets bs a → sign par (conj_nodes ns) bs (conj_ends opens) a ≡ sign par ns (reverse bs) opens (across a)
    conj_sign a m = ap₂ xor (twist_across par bs a m ∙ twist-perm par (across a) (perm_reverse bs)) (conj_order a m)

    abbrev term : Assignment → Gaussian
    term c = signed (sign par ns (reverse bs) opens c) (product ns c)

    pub conj_value : (a : Assignment) → flat par (conj_nodes ns) bs (conj_ends opens) a ≡ conj_g (flat par ns bs opens (across a))
    conj_value a =
        sums-meet bs (λ c. signed (sign par (conj_nodes ns) bs (conj_ends opens) c) (product (conj_nodes ns) c)) (λ c. conj_g (term (across c)))
        (λ c m. ap₂ signed (conj_sign c m) (conj_product ns c) ∙ sym (conj-signed (sign par ns (reverse bs) opens (across c)) (product ns (across c)))) a
        ∙ sums_across bs (λ c. conj_g (term c)) a
        ∙ conj-sums bs term (across a)
        ∙ ap conj_g (sums-perm (perm_reverse bs) (labels_distinct bs (distinct_first same_end (pairs_of bs) opens goal_distinct)) term (across a)
        ∙ sym (order_law par ns bs (reverse bs) opens net (perm_reverse bs) (across a)))
