use Rattle.std.proofs.Common.{◌≡◌, ℕ, ℤ, Bool, not, filter, int_eq, List, [], ◌∷◌, ◌++◌, refl, sym, ◌∙◌, ap, ap₂, subst, ◌⊎◌, inl, inr, count_by}
use mathlib.Core.Path.{fun_ext}
use Rattle.qn_sign.specs.Sign.{exchanges, is_in, is_odd, xor, IsDistinct, Perm}
use Rattle.qn_gauss.specs.Gaussian.{Gaussian, zero_g, mul_g, signed}
use Rattle.qn_value.specs.Networks.{End, Node, Bond, Assignment, sums, same_end, word, goal, odd_end, twist_sign, values, product, flat, IsNetwork, IsHomogeneous, AreAlike, AllAlike, at_values, contract, odd_flux, kept, labels}
use Rattle.qn_value.proofs.NetLaws.{word-append, product-append, node_path}
use Rattle.qn_value.proofs.RowsLemmas.{length-values}

entry_alike : (x y : Node) → AreAlike x y → (a : Assignment) → x.entry (values x.ends a) ≡ y.entry (values y.ends a)
entry_alike x y h a = h.entry (values x.ends a) (length-values x.ends a) ∙ ap (λ es. y.entry (values es a)) h.ends

word_alike : (pre : List Node) (x y : Node) (post : List Node) → AreAlike x y → word (pre ++ (x ∷ post)) ≡ word (pre ++ (y ∷ post))
word_alike pre x y post h =
    word-append pre (x ∷ post) ∙ ap (λ es. word pre ++ (es ++ word post)) h.ends ∙ sym (word-append pre (y ∷ post))

product_alike : (pre : List Node) (x y : Node) (post : List Node) → AreAlike x y → (a : Assignment) → product (pre ++ (x ∷ post)) a ≡ product (pre ++ (y ∷ post)) a
product_alike pre x y post h a =
    product-append pre (x ∷ post) a ∙ ap (λ g. mul_g (product pre a) (mul_g g (product post a))) (entry_alike x y h a) ∙ sym (product-append pre (y ∷ post) a)

pub value_alike : (par : ℤ → ℕ → Bool) (pre : List Node) (x y : Node) (post : List Node) (bs : List Bond) (opens : List End) → AreAlike x y → (a : Assignment) →
    flat par (pre ++ (x ∷ post)) bs opens a ≡ flat par (pre ++ (y ∷ post)) bs opens a
value_alike par pre x y post bs opens h a =
    ap (λ (f : Assignment → Gaussian). sums bs f a) (fun_ext (λ c.
    ap₂ (λ w g. signed (xor (twist_sign par bs c) (is_odd (exchanges same_end (odd_end par c) w (goal bs opens)))) g) (word_alike pre x y post h) (product_alike pre x y post h c)))

pub network_alike : (pre : List Node) (x y : Node) (post : List Node) (bs : List Bond) (opens : List End) → AreAlike x y →
    IsNetwork (pre ++ (x ∷ post)) bs opens → IsNetwork (pre ++ (y ∷ post)) bs opens
network_alike pre x y post bs opens h net = record {
  distinct = subst (IsDistinct same_end) (word_alike pre x y post h) net.distinct;
  complete = subst (λ w. Perm w (goal bs opens)) (word_alike pre x y post h) net.complete;
}

pub homogeneous_alike : (par : ℤ → ℕ → Bool) (x y : Node) → AreAlike x y → IsHomogeneous par x → IsHomogeneous par y
homogeneous_alike par x y h k a = go (k a)
  where
    go : (is_odd (count_by (odd_end par a) x.ends) ≡ x.odd) ⊎ (x.entry (values x.ends a) ≡ zero_g) →
        (is_odd (count_by (odd_end par a) y.ends) ≡ y.odd) ⊎ (y.entry (values y.ends a) ≡ zero_g)
    go (inl e) = inl (ap (λ es. is_odd (count_by (odd_end par a) es)) (sym h.ends) ∙ e ∙ h.odd)
    go (inr e) = inr (sym (entry_alike x y h a) ∙ e)

-- contractions of tensors that are alike

pub word_all : (ns ms : List Node) → AllAlike ns ms → word ns ≡ word ms
word_all [] [] h = refl
word_all [] (m ∷ ms) h = absurd h
word_all (n ∷ ns) [] h = absurd h
word_all (n ∷ ns) (m ∷ ms) h = ap₂ ◌++◌ h.0.ends (word_all ns ms h.1)

product_all : (ns ms : List Node) → AllAlike ns ms → (a : Assignment) → product ns a ≡ product ms a
product_all [] [] h a = refl
product_all [] (m ∷ ms) h a = absurd h
product_all (n ∷ ns) [] h a = absurd h
product_all (n ∷ ns) (m ∷ ms) h a = ap₂ mul_g (entry_alike n m h.0 a) (product_all ns ms h.1 a)

flux_all : (ns ms : List Node) → AllAlike ns ms → odd_flux ns ≡ odd_flux ms
flux_all [] [] h = refl
flux_all [] (m ∷ ms) h = absurd h
flux_all (n ∷ ns) [] h = absurd h
flux_all (n ∷ ns) (m ∷ ms) h = ap₂ xor h.0.odd (flux_all ns ms h.1)

pub contract_alike : (par : ℤ → ℕ → Bool) (ns ms : List Node) (bs : List Bond) → AllAlike ns ms → (opens : List End) → contract par ns bs opens ≡ contract par ms bs opens
contract_alike par ns ms bs h opens =
    node_path (contract par ns bs opens) (contract par ms bs opens) refl
    (λ xs. ap (λ (f : Assignment → Gaussian). sums bs f (at_values opens xs)) (fun_ext (λ c.
    ap₂ (λ w g. signed (xor (twist_sign par bs c) (is_odd (exchanges same_end (odd_end par c) w (goal bs opens)))) g) (word_all ns ms h) (product_all ns ms h c))))
    (flux_all ns ms h)

pub kept_alike : (par : ℤ → ℕ → Bool) (ns ms : List Node) (bs : List Bond) → AllAlike ns ms → contract par ns bs (kept ns bs) ≡ contract par ms bs (kept ms bs)
kept_alike par ns ms bs h =
    contract_alike par ns ms bs h (kept ns bs)
    ∙ ap (contract par ms bs) (ap (filter (λ e. not (is_in int_eq e.label (labels bs)))) (word_all ns ms h))
