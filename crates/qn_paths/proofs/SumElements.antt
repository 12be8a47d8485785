-- The matrix elements and the expectations of the automaton of an operator sum, for tensors as lists.
use Rattle.std.proofs.Common.{◌≡◌, ℕ, suc, ◌+◌, ◌-◌, ◌<◌, List, [], ◌∷◌, map, length, sym, ◌∙◌, ap, subst, arith}
use Rattle.std.proofs.lemmas.List.{length-map}
use Rattle.qn_index.specs.Legs.{total}
use Rattle.qn_index.specs.Places.{IsValues}
use Rattle.qn_block.specs.Blocked.{BlockedValue}
use Rattle.qn_block.proofs.Lookup.{values_length}
use Rattle.qn_sites.specs.Sites.{SiteValue}
use Rattle.qn_opsum.specs.Refusals.{IsSum}
use Rattle.qn_opsum.specs.Sums.{SumValue, site_at}
use Rattle.qn_auto.specs.SumAutomaton.{IsAutomatonOf}
use Rattle.qn_braket.specs.Chains.{IsOperatorChain, element, expectation}
use Rattle.qn_braket.proofs.ListValues.{element_same, elements}
use Rattle.qn_paths.specs.Sums.{site_legs, sum_element}
use Rattle.qn_paths.proofs.AutomatonValues.{AreSiteValues}
use Rattle.qn_paths.proofs.SumValues as values

-- values of the legs of the sites are values of the sites

site_values : (dim : ℕ → ℕ) (ss : List SiteValue) (j : ℕ) → ((i : ℕ) → i < length ss → dim (j + i) ≡ total (site_at ss i).leg.sectors) →
    (xs : List ℕ) → IsValues (map (λ s. s.leg) ss) xs → AreSiteValues dim j xs
site_values dim [] j same xs h = subst (AreSiteValues dim j) (sym h) tt
site_values dim (s ∷ ss) j same [] h = absurd h
site_values dim (s ∷ ss) j same (x ∷ xs) h = (
  subst (λ n. x < n) (sym (ap dim (here j) ∙ same 0 (omega arith))) h.0,
  site_values dim ss (suc j) (λ i b. ap dim (next i j) ∙ same (suc i) (omega (arith, b))) xs h.1,
)
  where
    here : (j : ℕ) → j ≡ j + 0
    here j = omega arith

    next : (i j : ℕ) → suc j + i ≡ j + suc i
    next i j = omega arith

pub sum_elements : (v : SumValue) (ts : List BlockedValue) → IsSum v → IsAutomatonOf v ts → IsOperatorChain (site_legs v) ts → (u s : List ℕ) →
    IsValues (site_legs v) u → IsValues (site_legs v) s → element v.group ts u s ≡ sum_element v u s
sum_elements v ts is auto c u s hu hs =
    element_same v.group (site_legs v) ts m (auto.count ∙ some) c u s
    ∙ values.sum_values v ts m is some auto u s (long u hu) (long s hs) (at u hu) (at s hs)
  where
    m : ℕ
    m = length v.sites - 1

    last : (n : ℕ) → 0 < n → n ≡ suc (n - 1)
    last n h = omega (arith, h)

    some : length v.sites ≡ suc m
    some = last (length v.sites) is.sites.some

    long : (xs : List ℕ) → IsValues (site_legs v) xs → length xs ≡ suc m
    long xs h = values_length (site_legs v) xs h ∙ length-map v.sites (λ s. s.leg) ∙ some

    at : (xs : List ℕ) → IsValues (site_legs v) xs → AreSiteValues (λ j. total (site_at v.sites j).leg.sectors) 0 xs
    at xs h = site_values (λ j. total (site_at v.sites j).leg.sectors) v.sites 0 (λ i b. ap (λ k. total (site_at v.sites k).leg.sectors) (zero_first i)) xs h
      where
        zero_first : (i : ℕ) → 0 + i ≡ i
        zero_first i = omega arith

pub sum_expectations : (v : SumValue) (ts bra ket : List BlockedValue) → IsSum v → IsAutomatonOf v ts → IsOperatorChain (site_legs v) ts →
    expectation v.group (site_legs v) (element v.group ts) bra ket ≡ expectation v.group (site_legs v) (sum_element v) bra ket
sum_expectations v ts bra ket is auto c = elements v.group (site_legs v) bra ket (element v.group ts) (sum_element v) (sum_elements v ts is auto c)
