-- The worked example: a fermion moves from one site to another.
use Rattle.std.proofs.Common.{◌≡◌, ◌≢◌, ℕ, zero, suc, ◌+◌, ◌*◌, ◌<◌, ◌&&◌, inl, inr, pos, negsuc, Bool, true, false, cond, List, [], ◌∷◌, length, map, refl, ap, ◌∙◌, arith}
use Rattle.std.specs.Prelude.{nat_lt, slice_index_or}
use Rattle.std.specs.List.{All}
use Rattle.std.proofs.lemmas.Bool.Decides.{nat_tests}
use Rattle.qn_gauss.specs.Gaussian.{Gaussian, zero_g, one_g, add_g, mul_g, neg_g}
use Rattle.qn_charge.specs.Charges.{IsCanonical, IsWithin}
use Rattle.qn_index.specs.declared.leg.Dir.TheVariants.{Out}
use Rattle.qn_index.specs.Legs.{HasDim, IsOf, LegValue}
use Rattle.qn_index.specs.Places.{IsValues}
use Rattle.qn_value.specs.Examples.{fermions, mode}
use Rattle.qn_value.specs.Tensors.{entry_of}
use Rattle.qn_block.specs.Blocked.{tensor_of}
use Rattle.qn_sites.specs.Operators.{IsSiteLeg, OpValue, carried, element}
use Rattle.qn_sites.specs.Sites.{GivenOp, IsOn, IsSite, SiteValue, identity_name, names, op_on}
use Rattle.qn_sites.specs.Kinds.{IsKind, fermion, kind_op}
use Rattle.qn_sites.proofs.KindFacts.{kind_is}
use Rattle.qn_sites.proofs.Made.{site_is}
use Rattle.qn_opsum.specs.Refusals.{AreSites, BadCount, BadName, BadSite, IsGood, IsSum}
use Rattle.qn_opsum.specs.Strings.{HasParities}
use Rattle.qn_opsum.specs.Sums.{term_at}
use Rattle.qn_opsum.proofs.Lookups.{has_parities}
use Rattle.qn_auto.specs.Automaton.{AllBelow}
use Rattle.qn_auto.specs.SumAutomaton.{IsAutomatonOf, IsTensorAt, entry_at_site, legs_at, sites_in, tensor_at, term_in}
use Rattle.qn_braket.specs.Examples.{hop, number}
use Rattle.qn_braket.specs.Chains.{IsOperatorChain}
use Rattle.qn_braket.proofs.WorkedChains.{is_operator}
use Rattle.qn_paths.specs.Examples.{far_hopping, fermion_lines, hopping, network_element, site, turned_hopping}
use Rattle.qn_paths.specs.Paths.{SuitSites}
use Rattle.qn_paths.specs.Sums.{site_legs, sum_element}
use Rattle.qn_facts.proofs.Lists.{all_two, all_three}
use Rattle.qn_facts.proofs.Numbers.{below_two}

pub hop_1 : sum_element hopping (1 ∷ 0 ∷ []) (0 ∷ 1 ∷ []) ≡ number (pos 1) (pos 0)
unfolding zero_g one_g add_g mul_g neg_g
hop_1 = refl

pub turned_1 : sum_element turned_hopping (1 ∷ 0 ∷ []) (0 ∷ 1 ∷ []) ≡ number (negsuc 0) (pos 0)
unfolding zero_g one_g add_g mul_g neg_g
turned_1 = refl

pub far_1 : sum_element far_hopping (1 ∷ 0 ∷ 0 ∷ []) (0 ∷ 0 ∷ 1 ∷ []) ≡ number (pos 1) (pos 0)
unfolding zero_g one_g add_g mul_g neg_g
far_1 = refl

pub passed_1 : sum_element far_hopping (1 ∷ 1 ∷ 0 ∷ []) (0 ∷ 1 ∷ 1 ∷ []) ≡ number (negsuc 0) (pos 0)
unfolding zero_g one_g add_g mul_g neg_g
passed_1 = refl

pub turned_network : network_element turned_hopping 1 (1 ∷ 0 ∷ []) (0 ∷ 1 ∷ []) ≡ number (negsuc 0) (pos 0)
unfolding zero_g one_g add_g mul_g neg_g
turned_network = refl

pub passed_network : network_element far_hopping 2 (1 ∷ 1 ∷ 0 ∷ []) (0 ∷ 1 ∷ 1 ∷ []) ≡ number (negsuc 0) (pos 0)
unfolding zero_g one_g add_g mul_g neg_g
passed_network = refl

-- the site

abbrev leg : LegValue
leg = mode Out

is_leg : IsSiteLeg fermions leg
is_leg = record {
  sectors = record { some = omega arith; few = omega arith; dims = all_two HasDim _ _ (omega arith, omega arith) (omega arith, omega arith); bound = omega arith };
  charges = all_two (IsOf fermions) _ _ (record { canonical = (tt, refl); within = (omega arith, tt) }) (record { canonical = (tt, refl); within = (omega arith, tt) });
  out = refl;
  small = omega arith;
}

-- an entry outside the table is 0
module _ (g : GivenOp) where
  abbrev op : OpValue
  op = op_on fermions leg g

  large : (r : ℕ) → nat_lt (suc (suc r)) 2 ≡ false
  large r = grind (arith, nat_tests)

  by_entries : (carried fermions leg.sectors 0 0 ≢ g.charge → element op 0 0 ≡ zero_g) → (carried fermions leg.sectors 0 1 ≢ g.charge → element op 0 1 ≡ zero_g) →
      (carried fermions leg.sectors 1 0 ≢ g.charge → element op 1 0 ≡ zero_g) → (carried fermions leg.sectors 1 1 ≢ g.charge → element op 1 1 ≡ zero_g) →
      (row column : ℕ) → carried fermions leg.sectors row column ≢ g.charge → element op row column ≡ zero_g
  by_entries a b c d zero zero = a
  by_entries a b c d zero (suc zero) = b
  by_entries a b c d (suc zero) zero = c
  by_entries a b c d (suc zero) (suc zero) = d
  by_entries a b c d (suc (suc r)) column = λ h. ap (λ t. cond (t && nat_lt column 2) (slice_index_or g.entries (suc (suc r) * 2 + column) zero_g) zero_g) (large r)
  by_entries a b c d row (suc (suc k)) = λ h.
      ap (λ t. cond (nat_lt row 2 && t) (slice_index_or g.entries (row * 2 + suc (suc k)) zero_g) zero_g) (large k)
      ∙ none (nat_lt row 2) (slice_index_or g.entries (row * 2 + suc (suc k)) zero_g)
    where
      none : (t : Bool) (z : Gaussian) → cond (t && false) z zero_g ≡ zero_g
      none true z = refl
      none false z = refl

  on_leg : IsCanonical fermions g.charge → IsWithin 10000000 fermions g.charge → length g.entries ≡ 4 →
      ((row column : ℕ) → carried fermions leg.sectors row column ≢ g.charge → element op row column ≡ zero_g) → IsOn fermions leg op
  on_leg canonical within full conserves = record {
    group = refl;
    leg = refl;
    operator = record { group = (tt, tt); leg = is_leg; canonical = canonical; within = within; full = full; conserves = conserves };
  }

-- the annihilation, the creation and the number of fermions

abbrev fermion_ops : List OpValue
fermion_ops = map (op_on fermions leg) (map (kind_op 2) fermion.ops)

is_fermion : IsKind fermion
is_fermion = kind_is fermion (1, omega arith, refl)

abbrev given : ℕ → GivenOp
given i = kind_op 2 (slice_index_or fermion.ops i (record { name = []; charge = []; entries = [] }))

ops_on : All (IsOn fermions leg) fermion_ops
ops_on = all_three (IsOn fermions leg) _ _ _
    (on_leg (given 0) (tt, refl) (omega arith, tt) refl (by_entries (given 0) (λ h. refl) (λ h. absurd (h refl)) (λ h. refl) (λ h. refl)))
    (on_leg (given 1) (tt, refl) (omega arith, tt) refl (by_entries (given 1) (λ h. refl) (λ h. refl) (λ h. absurd (h refl)) (λ h. refl)))
    (on_leg (given 2) (tt, refl) (omega arith, tt) refl (by_entries (given 2) (λ h. refl) (λ h. refl) (λ h. refl) (λ h. absurd (h refl))))

named : All (λ n. n ≢ identity_name) (names fermion_ops)
named = all_three (λ n. n ≢ identity_name) _ _ _ (op_named 0 (omega arith)) (op_named 1 (omega arith)) (op_named 2 (omega arith))
  where
    op_named : (i : ℕ) → i < 3 → (given i).name ≢ identity_name
    op_named i b = (is_fermion.ops i (record { name = []; charge = []; entries = [] }) b).named

is_site : IsSite site
is_site = site_is fermions leg fermion_ops (tt, tt) is_leg (omega arith) is_fermion.ascending ops_on named

-- the sum

are_sites : AreSites fermions hopping.sites
are_sites = record {
  group = (tt, tt);
  some = omega arith;
  few = omega arith;
  sites = all_two IsSite site site is_site is_site;
  groups = all_two (λ (s : SiteValue). s.group ≡ fermions) site site refl refl;
}

is_good : IsGood hopping.sites (term_at hopping.terms 0).factors
is_good = record { few = omega arith; sites = sites_good; names = names_good }
  where
    sites_good : (i : ℕ) → BadSite 2 (term_at hopping.terms 0).factors i → ⊥
    sites_good zero (b, inl e) = absurd (omega (arith, e))
    sites_good zero (b, inr e) = absurd (omega (arith, e))
    sites_good (suc zero) (b, inl e) = absurd (omega (arith, e))
    sites_good (suc zero) (b, inr e) = absurd (omega (arith, e))
    sites_good (suc (suc i)) (b, e) = absurd (omega (arith, b))

    names_good : (i : ℕ) → BadName hopping.sites (term_at hopping.terms 0).factors i → ⊥
    names_good zero h = h.1 1 (omega arith) refl
    names_good (suc zero) h = h.1 0 (omega arith) refl
    names_good (suc (suc i)) h = let b = h.0 in absurd (omega (arith, b))

one : (P : ℕ → Type 0) → P 0 → (j : ℕ) → j < 1 → P j
one P a zero b = a
one P a (suc j) b = absurd (omega (arith, b))

pub is_sum : IsSum hopping
is_sum = record {
  sites = are_sites;
  count = some_terms;
  good = one (λ j. IsGood hopping.sites (term_at hopping.terms j).factors) is_good;
  charges = one _ refl;
  flux = record { canonical = (tt, refl); within = (omega arith, tt) };
}
  where
    some_terms : BadCount hopping.terms → ⊥
    some_terms (inl e) = absurd (omega (arith, e))
    some_terms (inr e) = absurd (omega (arith, e))

-- its automaton

small : {P : Type 0} (x : ℕ) → suc (suc x) < 2 → P
small x h = absurd (omega (arith, h))

one_value : {P : Type 0} (x : ℕ) → suc x < 1 → P
one_value x h = absurd (omega (arith, h))

longer : {P : Type 0} (x : ℕ) (xs : List ℕ) → (x ∷ xs) ≡ [] → P
longer x xs e = cc

first_entries : (xs : List ℕ) → IsValues (legs_at hopping 0) xs → entry_of (tensor_of (tensor_at hop 0)) xs ≡ entry_at_site hopping 0 xs
unfolding zero_g one_g add_g mul_g neg_g
first_entries [] h = absurd h
first_entries (x ∷ []) h = absurd h.1
first_entries (x ∷ y ∷ []) h = absurd h.1.1
first_entries (zero ∷ zero ∷ zero ∷ []) h = refl
first_entries (zero ∷ suc zero ∷ zero ∷ []) h = refl
first_entries (suc zero ∷ zero ∷ zero ∷ []) h = refl
first_entries (suc zero ∷ suc zero ∷ zero ∷ []) h = refl
first_entries (x ∷ y ∷ suc r ∷ []) h = one_value r h.1.1.0
first_entries (x ∷ suc (suc y) ∷ r ∷ []) h = small y h.1.0
first_entries (suc (suc x) ∷ y ∷ r ∷ []) h = small x h.0
first_entries (x ∷ y ∷ r ∷ z ∷ zs) h = longer z zs h.1.1.1

second_entries : (xs : List ℕ) → IsValues (legs_at hopping 1) xs → entry_of (tensor_of (tensor_at hop 1)) xs ≡ entry_at_site hopping 1 xs
unfolding zero_g one_g add_g mul_g neg_g
second_entries [] h = absurd h
second_entries (r ∷ []) h = absurd h.1
second_entries (r ∷ x ∷ []) h = absurd h.1.1
second_entries (zero ∷ zero ∷ zero ∷ []) h = refl
second_entries (zero ∷ zero ∷ suc zero ∷ []) h = refl
second_entries (zero ∷ suc zero ∷ zero ∷ []) h = refl
second_entries (zero ∷ suc zero ∷ suc zero ∷ []) h = refl
second_entries (suc r ∷ x ∷ y ∷ []) h = one_value r h.0
second_entries (r ∷ suc (suc x) ∷ y ∷ []) h = small x h.1.0
second_entries (r ∷ x ∷ suc (suc y) ∷ []) h = small y h.1.1.0
second_entries (r ∷ x ∷ y ∷ z ∷ zs) h = longer z zs h.1.1.1

pub is_automaton : IsAutomatonOf hopping hop
is_automaton = record {
  count = refl;
  tensors = below_two (λ j. IsTensorAt hopping j (tensor_at hop j))
      (record { shape = record { group = refl; legs = refl; flux = refl }; entries = first_entries; canonical = refl })
      (record { shape = record { group = refl; legs = refl; flux = refl }; entries = second_entries; canonical = refl });
}

pub is_chain : IsOperatorChain (site_legs hopping) hop
is_chain = is_operator

-- what the law of the automaton's pieces asks for

pub parities : HasParities (sites_in hopping)
parities = has_parities fermions hopping.sites are_sites

pub below : AllBelow (sites_in hopping).count (map (term_in hopping.sites) hopping.terms)
below = ((omega arith, (omega arith, tt)), tt)

pub lines : SuitSites fermion_lines (sites_in hopping) 1
lines = record {
  upper = λ j v b. same v j b;
  lower = λ j v b. same v j b;
}
  where
    same : (v : ℕ) (j : ℕ) → j < 2 → fermion_lines (pos 0) v ≡ (sites_in hopping).odd_value j v
    same v = below_two (λ j. fermion_lines (pos 0) v ≡ (sites_in hopping).odd_value j v) refl refl
