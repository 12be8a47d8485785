-- The worked example: a state of below_two fermion sites, its overlap, and the expectation of a hop.
use Rattle.std.proofs.Common.{◌≡◌, ◌≢◌, ℕ, zero, suc, ◌<◌, pos, negsuc, Bool, true, false, cond, List, [], ◌∷◌, reverse, refl, sym, ◌∙◌, ap, ap₂, subst, arith}
use Rattle.std.proofs.lemmas.Bool.{false≢true}
use Rattle.std.proofs.lemmas.List.{reverse-reverse}
use Rattle.std.specs.List.{All}
use Rattle.qn_gauss.specs.Gaussian.{Gaussian, zero_g, one_g, add_g, mul_g, neg_g, conj_g}
use Rattle.qn_index.specs.declared.leg.Dir.TheVariants.{Out, In}
use Rattle.qn_value.specs.Examples.{fermions}
use Rattle.qn_value.specs.Tensors.{Row, same_values, entry_at}
use Rattle.qn_value.proofs.Values.{same_values-equal}
use Rattle.qn_value.proofs.RowsLemmas.{same_values-itself}
use Rattle.qn_gauss.proofs.Conjugate.{conj_zero}
use Rattle.qn_net.specs.NetworkValues.{value}
use Rattle.qn_braket.specs.ChainLaws.{network_flux}
use Rattle.qn_braket.specs.Chains.{leg_at, tensor_at, state_legs, operator_legs, AreLegsOf, HasLink, IsStateChain, IsOperatorChain, chain_flux, amplitude, element, overlap, expectation, AreConjugates, overlap_network, expect_network}
use Rattle.qn_braket.specs.Examples.{number, two_sites, state, turned_state, hop, conjugates}
use Rattle.qn_facts.proofs.Numbers.{below_two}
use Rattle.qn_facts.proofs.Booleans.{same_tests}

pub amplitude_10 : amplitude fermions state (1 ∷ 0 ∷ []) ≡ number (pos 0) (pos 2)
unfolding zero_g one_g add_g mul_g neg_g
amplitude_10 = refl

pub amplitude_01 : amplitude fermions state (0 ∷ 1 ∷ []) ≡ number (pos 3) (pos 0)
unfolding zero_g one_g add_g mul_g neg_g
amplitude_01 = refl

pub turned_01 : amplitude fermions turned_state (0 ∷ 1 ∷ []) ≡ number (pos 3) (pos 0)
unfolding zero_g one_g add_g mul_g neg_g
turned_01 = refl

pub overlap_13 : overlap fermions two_sites state state ≡ number (pos 13) (pos 0)
unfolding zero_g one_g add_g mul_g neg_g conj_g
overlap_13 = refl

pub element_1 : element fermions hop (1 ∷ 0 ∷ []) (0 ∷ 1 ∷ []) ≡ number (pos 1) (pos 0)
unfolding zero_g one_g add_g mul_g neg_g
element_1 = refl

pub expectation_6 : expectation fermions two_sites (element fermions hop) state state ≡ number (pos 0) (negsuc 5)
unfolding zero_g one_g add_g mul_g neg_g conj_g
expectation_6 = refl

pub flux_1 : chain_flux fermions state ≡ pos 1 ∷ []
flux_1 = refl

pub overlap_value : value (overlap_network fermions conjugates state) [] ≡ number (pos 13) (pos 0)
unfolding zero_g one_g add_g mul_g neg_g
overlap_value = refl

pub expectation_value : value (expect_network fermions conjugates hop state) [] ≡ number (pos 0) (negsuc 5)
unfolding zero_g one_g add_g mul_g neg_g
expectation_value = refl

pub overlap_flux : network_flux (overlap_network fermions conjugates state) ≡ pos 0 ∷ []
overlap_flux = refl

-- the chains are chains

one : (P : ℕ → Type 0) → P 0 → (j : ℕ) → suc j < 2 → P j
one P a zero h = a
one P a (suc j) h = absurd (omega (arith, h))

in_out : In ≢ Out
in_out e = cc

out_in : Out ≢ In
out_in e = cc

outward : All (λ l. l.arrow ≡ Out) two_sites
outward zero d h = refl
outward (suc zero) d h = refl
outward (suc (suc k)) d h = absurd (omega (arith, h))

pub is_state : IsStateChain two_sites state
is_state = record {
  some = omega arith;
  outward = outward;
  count = refl;
  shapes = below_two (λ j. AreLegsOf (state_legs (leg_at two_sites j)) 2 j (tensor_at state j).legs) (record { count = refl; own = refl }) (record { count = refl; own = refl });
  links = one (HasLink state) (in_out, refl);
}

pub is_turned : IsStateChain two_sites turned_state
is_turned = record {
  some = omega arith;
  outward = outward;
  count = refl;
  shapes = below_two (λ j. AreLegsOf (state_legs (leg_at two_sites j)) 2 j (tensor_at turned_state j).legs) (record { count = refl; own = refl }) (record { count = refl; own = refl });
  links = one (HasLink turned_state) (out_in, refl);
}

pub is_operator : IsOperatorChain two_sites hop
is_operator = record {
  some = omega arith;
  outward = outward;
  count = refl;
  shapes = below_two (λ j. AreLegsOf (operator_legs (leg_at two_sites j)) 2 j (tensor_at hop j).legs) (record { count = refl; own = refl }) (record { count = refl; own = refl });
  links = one (HasLink hop) (in_out, refl);
}

-- the conjugates are the conjugates

back_same : (u v : List ℕ) → same_values (reverse u) (reverse v) ≡ same_values u v
back_same u v =
    same_tests (same_values (reverse u) (reverse v)) (same_values u v)
    (λ e. subst (λ w. same_values u w ≡ true) (sym (reverse-reverse u) ∙ ap reverse (same_values-equal (reverse u) (reverse v) e) ∙ reverse-reverse v) (same_values-itself u))
    (λ e. subst (λ w. same_values (reverse u) (reverse w) ≡ true) (same_values-equal u v e) (same_values-itself (reverse u)))

-- below_two rows, and those of the conjugate in the same order or in the other one
module _ (u v : List ℕ) (x y : Gaussian) (xs : List ℕ) where
  abbrev rows : List Row
  rows = record { values = u; entry = x } ∷ record { values = v; entry = y } ∷ []

  same_order : entry_at (record { values = reverse u; entry = conj_g x } ∷ record { values = reverse v; entry = conj_g y } ∷ []) (reverse xs) ≡ conj_g (entry_at rows xs)
  same_order = ap₂ (λ p q. cond p (conj_g x) (cond q (conj_g y) zero_g)) (back_same u xs) (back_same v xs) ∙ both (same_values u xs) (same_values v xs)
    where
      both : (p q : Bool) → cond p (conj_g x) (cond q (conj_g y) zero_g) ≡ conj_g (cond p x (cond q y zero_g))
      both true q = refl
      both false true = refl
      both false false = sym conj_zero

  other_order : same_values u v ≡ false →
      entry_at (record { values = reverse v; entry = conj_g y } ∷ record { values = reverse u; entry = conj_g x } ∷ []) (reverse xs) ≡ conj_g (entry_at rows xs)
  other_order differ =
      ap₂ (λ q p. cond q (conj_g y) (cond p (conj_g x) zero_g)) (back_same v xs) (back_same u xs) ∙ swapped (same_values u xs) refl (same_values v xs) refl
    where
      swapped : (p : Bool) → same_values u xs ≡ p → (q : Bool) → same_values v xs ≡ q → cond q (conj_g y) (cond p (conj_g x) zero_g) ≡ conj_g (cond p x (cond q y zero_g))
      swapped true e true f = absurd (false≢true (sym differ ∙ subst (λ w. same_values u w ≡ true) (sym (same_values-equal v xs f)) e))
      swapped true e false f = refl
      swapped false e true f = refl
      swapped false e false f = sym conj_zero

pub are_conjugates : AreConjugates state conjugates
unfolding conj_g
are_conjugates = (
  record { group = refl; legs = refl; flux = refl; entries = same_order (0 ∷ 0 ∷ []) (1 ∷ 1 ∷ []) (number (pos 1) (pos 0)) (number (pos 0) (pos 1)) },
  (record { group = refl; legs = refl; flux = refl; entries = λ xs. other_order (0 ∷ 1 ∷ []) (1 ∷ 0 ∷ []) (number (pos 3) (pos 0)) (number (pos 2) (pos 0)) xs refl }, tt),
)
