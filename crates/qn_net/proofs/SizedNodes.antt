-- Sums of magnitudes as values of a network: each entry is replaced by its magnitude, and nothing is odd.
use Rattle.std.proofs.Common.{◌≡◌, ℕ, zero, suc, ◌+◌, ◌*◌, ℤ, pos, Bool, true, false, not, ◌&&◌, cond, List, [], ◌∷◌, ◌++◌, refl, sym, ◌∙◌, ap, ap₂, subst, map, filter, count_by, int_eq, zero-add, arith}
use Rattle.std.proofs.lemmas.Int.{ints}
use Rattle.std.specs.Prelude.{◌+ℤ◌, ◌-ℤ◌, ◌*ℤ◌}
use Rattle.std.proofs.lemmas.List.Sums.{sum_by-cons}
use Rattle.qn_sign.specs.Sign.{is_in, is_odd, xor, stands_before, exchanges, IsDistinct, Perm}
use Rattle.qn_gauss.specs.Gaussian.{Gaussian, zero_g, one_g, add_g, mul_g, signed, mag}
use Rattle.qn_value.specs.Networks.{End, Node, Bond, Assignment, Parities, assign, same_end, word, goal, labels, kept, twist_sign, sign, product, sum_below, sums, flat, at_values, contract, relabel, relabel_node, relabel_bond, KeepsApart, IsNetwork, AllAlike}
use Rattle.qn_value.specs.Magnitudes.{total_below, total, mag_at, magnitudes}
use Rattle.qn_value.proofs.OperationLaw.{operation_law}

-- a number as a Gaussian integer
abbrev of_nat : ℕ → Gaussian
of_nat n = record { re = pos n; im = pos 0 }

abbrev sized : Node → Node
sized n = record { ends = n.ends; entry = λ xs. of_nat (mag (n.entry xs)); odd = n.odd }

abbrev even : Parities
even l v = false

zero_of : zero_g ≡ of_nat 0
unfolding zero_g
zero_of = refl

one_of : one_g ≡ of_nat 1
unfolding one_g
one_of = refl

add_of : (m n : ℕ) → add_g (of_nat m) (of_nat n) ≡ of_nat (m + n)
unfolding add_g
add_of m n = refl

mul_of : (m n : ℕ) → mul_g (of_nat m) (of_nat n) ≡ of_nat (m * n)
unfolding mul_g
mul_of m n = λ i. record { re = first i; im = second i }
  where
    first : (pos m *ℤ pos n) -ℤ (pos 0 *ℤ pos 0) ≡ pos (m * n)
    first = omega (arith, ints)

    second : (pos m *ℤ pos 0) +ℤ (pos 0 *ℤ pos n) ≡ pos 0
    second = omega (arith, ints)

product_of : (ns : List Node) (a : Assignment) → product (map sized ns) a ≡ of_nat (magnitudes ns a)
product_of [] a = one_of
product_of (n ∷ ns) a = ap (mul_g (of_nat (mag_at n a))) (product_of ns a) ∙ mul_of (mag_at n a) (magnitudes ns a)

below_of : (n : ℕ) (f : ℕ → ℕ) (g : ℕ → Gaussian) → ((v : ℕ) → g v ≡ of_nat (f v)) → sum_below n g ≡ of_nat (total_below n f)
below_of zero f g h = zero_of
below_of (suc n) f g h = ap₂ add_g (below_of n f g h) (h n) ∙ add_of (total_below n f) (f n)

sums_of : (bs : List Bond) (f : Assignment → ℕ) (g : Assignment → Gaussian) → ((c : Assignment) → g c ≡ of_nat (f c)) → (a : Assignment) → sums bs g a ≡ of_nat (total bs f a)
sums_of [] f g h a = h a
sums_of (b ∷ bs) f g h a = below_of b.dim (λ v. total bs f (assign a b.label v)) (λ v. sums bs g (assign a b.label v)) (λ v. sums_of bs f g h (assign a b.label v))

none_odd : (w : List End) (x : End) (g : List End) → count_by (λ y. false && false && stands_before same_end w y x) g ≡ 0
none_odd w x [] = refl
none_odd w x (z ∷ g) = sum_by-cons (λ y. cond (false && false && stands_before same_end w y x) 1 0) z g ∙ zero-add (count_by (λ y. false && false && stands_before same_end w y x) g) ∙ none_odd w x g

no_exchange : (w g : List End) → exchanges same_end (λ e. false) w g ≡ 0
no_exchange w [] = refl
no_exchange w (x ∷ g) = ap₂ ◌+◌ (none_odd w x g) (no_exchange w g)

no_twist : (bs : List Bond) (a : Assignment) → twist_sign even bs a ≡ false
no_twist [] a = refl
no_twist (b ∷ bs) a = ap₂ xor (nothing b.twisted) (no_twist bs a)
  where
    nothing : (t : Bool) → (t && false) ≡ false
    nothing true = refl
    nothing false = refl

no_sign : (ns : List Node) (bs : List Bond) (opens : List End) (a : Assignment) → sign even ns bs opens a ≡ false
no_sign ns bs opens a = ap₂ xor (no_twist bs a) (ap is_odd (no_exchange (word ns) (goal bs opens)))

flat_of : (ns : List Node) (bs : List Bond) (opens : List End) (a : Assignment) → flat even (map sized ns) bs opens a ≡ of_nat (total bs (magnitudes ns) a)
flat_of ns bs opens a =
    sums_of bs (magnitudes ns) (λ c. signed (sign even (map sized ns) bs opens c) (product (map sized ns) c))
    (λ c. ap (λ s. signed s (product (map sized ns) c)) (no_sign (map sized ns) bs opens c) ∙ product_of ns c) a

nat_of : (m n : ℕ) → of_nat m ≡ of_nat n → m ≡ n
nat_of m n e = number (ap (λ (z : Gaussian). z.re) e)
  where
    number : pos m ≡ pos n → m ≡ n
    number e = cc e

-- the same for lists of tensors

sized_word : (ns : List Node) → word (map sized ns) ≡ word ns
sized_word [] = refl
sized_word (n ∷ ns) = ap (λ w. n.ends ++ w) (sized_word ns)

sized_alike : (ms ns : List Node) → AllAlike ms ns → AllAlike (map sized ms) (map sized ns)
sized_alike [] [] h = tt
sized_alike [] (n ∷ ns) h = absurd h
sized_alike (m ∷ ms) [] h = absurd h
sized_alike (m ∷ ms) (n ∷ ns) h = (record { ends = h.0.ends; odd = h.0.odd; entry = λ xs l. ap (λ z. of_nat (mag z)) (h.0.entry xs l) }, sized_alike ms ns h.1)

sized_names : (f : ℤ → ℤ) (ns : List Node) → map (relabel_node f) (map sized ns) ≡ map sized (map (relabel_node f) ns)
sized_names f [] = refl
sized_names f (n ∷ ns) = ap (λ ms. sized (relabel_node f n) ∷ ms) (sized_names f ns)

-- the sum of magnitudes of a contraction of tensors with labels of their own is that in the network
pub same_magnitude : (names : ℤ → ℤ) (local ns : List Node) (bonds shared : List Bond) (opens : List End) →
    AllAlike (map (relabel_node names) local) ns → IsNetwork local bonds opens → KeepsApart names (word local) →
    Perm (map (relabel_bond names) bonds) shared → map (relabel names) opens ≡ kept ns shared → (xs : List ℕ) →
    total bonds (magnitudes local) (at_values opens xs) ≡ total shared (magnitudes ns) (at_values (kept ns shared) xs)
same_magnitude names local ns bonds shared opens alike net apart order legs xs =
    let kept_same : kept (map sized ns) shared ≡ kept ns shared = ap (filter (λ (e : End). not (is_in int_eq e.label (labels shared)))) (sized_word ns) in
    nat_of (total bonds (magnitudes local) (at_values opens xs)) (total shared (magnitudes ns) (at_values (kept ns shared) xs))
    (sym (flat_of local bonds opens (at_values opens xs))
    ∙ operation_law names even even (map sized local) (map sized ns) bonds shared opens
    (subst (λ ms. AllAlike ms (map sized ns)) (sym (sized_names names local)) (sized_alike (map (relabel_node names) local) ns alike))
    (record { distinct = subst (IsDistinct same_end) (sym (sized_word local)) net.distinct; complete = subst (λ w. Perm w (goal bonds opens)) (sym (sized_word local)) net.complete })
    (subst (KeepsApart names) (sym (sized_word local)) apart)
    (λ e i v. refl) order (legs ∙ sym kept_same) xs
    ∙ ap (λ es. (contract even (map sized ns) shared es).entry xs) kept_same
    ∙ flat_of ns shared (kept ns shared) (at_values (kept ns shared) xs))
