-- All lines of a tensor twisted together.
use Rattle.std.proofs.Common.{◌≡◌, ℕ, suc, ℤ, Bool, true, false, ◌&&◌, ◌||◌, cond, List, [], ◌∷◌, refl, sym, ◌∙◌, ap, ap₂, subst, map, filter, int_eq, count_by, ◌⊎◌, inl, inr}
use mathlib.Core.Path.{fun_ext}
use Rattle.std.proofs.lemmas.Bool.{or_left, or_right}
use Rattle.qn_sign.specs.Sign.{is_in, is_odd, xor, IsDistinct}
use Rattle.qn_gauss.specs.Gaussian.{zero_g, signed, mul_g}
use Rattle.qn_value.specs.Networks.{End, Node, Bond, Assignment, Parities, same_end, odd_end, sums, sign, values, product, flat, labels, at_values, kept, IsHomogeneous}
use Rattle.qn_value.specs.Twists.{odd_among, twisted_at, is_twisted, untwist, HasOneEnd}
use Rattle.qn_sign.proofs.Parity.{tally, is_odd-count}
use Rattle.qn_value.proofs.NetLaws.{end_test, signed-zero}
use Rattle.qn_value.proofs.TwistLemmas.{labels-untwist, twist_pair_law}
use Rattle.qn_net.specs.TwistedSteps.{twist, AllTwistedLaw}
use Rattle.qn_net.proofs.PlanSteps.{signed_node, signed_value}

labels-twist : (bs : List Bond) → labels (map twist bs) ≡ labels bs
labels-twist [] = refl
labels-twist (b ∷ bs) = ap (λ ls. b.label ∷ ls) (labels-twist bs)

all_marked : (bs : List Bond) → labels (filter (λ b. b.twisted) (map twist bs)) ≡ labels bs
all_marked [] = refl
all_marked (b ∷ bs) = ap (λ ls. b.label ∷ ls) (all_marked bs)

untwist-twist : (bs : List Bond) → map untwist (map twist bs) ≡ map untwist bs
untwist-twist [] = refl
untwist-twist (b ∷ bs) = ap (λ cs. untwist b ∷ cs) (untwist-twist bs)

one_twisted : (x : Node) (bs : List Bond) → HasOneEnd (λ e. true) x bs → HasOneEnd (λ e. true) x (map twist bs)
one_twisted x [] h = tt
one_twisted x (b ∷ bs) h = (h.0, one_twisted x bs h.1)

-- where all ends pass the test, the odd ones are counted
all_counted : (par : Parities) (test : End → Bool) (es : List End) (a : Assignment) → ((e : End) → is_in same_end e es ≡ true → test e ≡ true) → odd_among par test es (values es a) ≡ tally (odd_end par a) es
all_counted par test [] a h = refl
all_counted par test (e ∷ es) a h =
    ap₂ (λ t u. xor (t && par e.label (a e)) u) (h e (or_left (same_end e e) (is_in same_end e es) (end_test.itself e)))
    (all_counted par test es a (λ f i. h f (or_right (same_end f e) (is_in same_end f es) i)))

pub all_twisted : AllTwistedLaw
all_twisted par x y shared dx ds one inside even xs =
    ap (λ n. n.entry xs) (twist_pair_law par x y (map twist shared) dx (subst (IsDistinct int_eq) (sym (labels-twist shared)) ds) (one_twisted x shared one))
    ∙ ap (λ bs. flat par (z ∷ y ∷ []) bs (kept (x ∷ y ∷ []) bs) (at_values (kept (x ∷ y ∷ []) bs) xs)) (untwist-twist shared)
    ∙ ap (λ f. sums (map untwist shared) f (at_values opens xs)) (fun_ext (λ c. ap (λ v. signed (sign par (x ∷ y ∷ []) (map untwist shared) opens c) (mul_g v (product (y ∷ []) c))) (same c)))
    ∙ sym (signed_value par x.odd [] x (y ∷ []) (map untwist shared) opens (at_values opens xs))
  where
    opens : List End
    opens = kept (x ∷ y ∷ []) (map untwist shared)

    z : Node
    z = twisted_at par (is_twisted (map twist shared)) x

    passes : (e : End) → is_in same_end e x.ends ≡ true → is_twisted (map twist shared) e ≡ true
    passes e i = ap (is_in int_eq e.label) (all_marked shared) ∙ inside e i

    same : (c : Assignment) → z.entry (values x.ends c) ≡ signed x.odd (x.entry (values x.ends c))
    same c = go (even c)
      where
        go : (is_odd (count_by (odd_end par c) x.ends) ≡ x.odd) ⊎ (x.entry (values x.ends c) ≡ zero_g) → z.entry (values x.ends c) ≡ signed x.odd (x.entry (values x.ends c))
        go (inl e) = ap (λ s. signed s (x.entry (values x.ends c))) (all_counted par (is_twisted (map twist shared)) x.ends c passes ∙ sym (is_odd-count (odd_end par c) x.ends) ∙ e)
        go (inr n) =
            ap (signed (odd_among par (is_twisted (map twist shared)) x.ends (values x.ends c))) n ∙ signed-zero (odd_among par (is_twisted (map twist shared)) x.ends (values x.ends c))
            ∙ sym (ap (signed x.odd) n ∙ signed-zero x.odd)
