-- Tensors with the shapes of the automaton are an operator chain.
use Rattle.std.proofs.Common.{◌≡◌, ℕ, ◌<◌, ◌≤◌, ◌^◌, Bool, true, false, if◌then◌else◌, List, length, get_or, sym, ◌∙◌, ap, subst, arith}
use Rattle.std.specs.List.{All}
use Rattle.std.proofs.lemmas.List.{get_or_default, get_or-map, length-map}
use Rattle.qn_charge.specs.declared.factor.Factor as charge
use Rattle.qn_charge.specs.Charges.{IsWithin, zero_charge}
use Rattle.qn_charge.specs.Laws.{within_more, within_zero}
use Rattle.qn_index.specs.declared.leg.Dir.TheVariants.{Out}
use Rattle.qn_index.specs.Legs.{LegValue}
use Rattle.qn_index.specs.Places.{IsValues}
use Rattle.qn_block.specs.Blocked.{BlockedValue}
use Rattle.qn_sites.specs.Sites.{SiteValue}
use Rattle.qn_opsum.specs.Sums.{SumValue, no_site}
use Rattle.qn_opsum.specs.Refusals.{IsSum}
use Rattle.qn_auto.specs.SumAutomaton.{HasShapeAt, IsAutomatonOf, flux_at, is_last, no_tensor, tensor_at}
use Rattle.qn_auto.proofs.Terms.{flux_fits}
use Rattle.qn_braket.specs.Chains.{IsOperatorChain, element}
use Rattle.qn_paths.specs.Sums.{site_legs, sum_element}
use Rattle.qn_paths.proofs.SumElements.{sum_elements}
use Rattle.qn_mps.specs.Chains.{ChainValue}
use Rattle.qn_mpo.specs.Builds.{IsOnSites}

-- the shapes of all tensors
abbrev pub HaveShapes : SumValue → List BlockedValue → Type 0
HaveShapes v ts = (j : ℕ) → j < length v.sites → HasShapeAt v j (tensor_at ts j)

-- ---- what a chain asks

pub record IsChainReady (gs : List charge.Factor) (sites : List LegValue) (ts : List BlockedValue) : Type 0 where
  pub some : 0 < length sites
  pub few : length sites ≤ 64
  pub outward : All (λ (l : LegValue). l.arrow ≡ Out) sites
  pub groups : All (λ (t : BlockedValue). t.group ≡ gs) ts
  pub fluxes : All (λ (t : BlockedValue). IsWithin (2 ^ 41) gs t.flux) ts

flux_small : (v : SumValue) → IsSum v → (j : ℕ) → IsWithin (2 ^ 41) v.group (flux_at v j)
flux_small v h j = go (is_last v j)
  where
    go : (b : Bool) → IsWithin (2 ^ 41) v.group (if b then v.flux else zero_charge v.group)
    go true = within_more 320000000 (2 ^ 41) v.group v.flux (omega arith) (flux_fits v h).1
    go false = within_zero (2 ^ 41) v.group

ready : (v : SumValue) → IsSum v → (ts : List BlockedValue) → length ts ≡ length v.sites → HaveShapes v ts → IsChainReady v.group (site_legs v) ts
ready v h ts n s = record {
  some = omega (arith, as_many, h.sites.some);
  few = omega (arith, as_many, h.sites.few);
  outward = outward;
  groups = groups;
  fluxes = fluxes;
}
  where
    as_many : length (site_legs v) ≡ length v.sites
    as_many = length-map v.sites (λ (s : SiteValue). s.leg)

    outward : (j : ℕ) (d : LegValue) → j < length (site_legs v) → (get_or (site_legs v) j d).arrow ≡ Out
    outward j d lt =
        let below : j < length v.sites = omega (arith, lt, as_many) in
        ap (λ (l : LegValue). l.arrow) (get_or-map (λ (s : SiteValue). s.leg) v.sites j no_site d below) ∙ (h.sites.sites j no_site below).leg.out

    groups : (j : ℕ) (d : BlockedValue) → j < length ts → (get_or ts j d).group ≡ v.group
    groups j d lt = ap (λ (t : BlockedValue). t.group) (get_or_default ts j d no_tensor lt) ∙ (s j (omega (arith, lt, n))).group

    fluxes : (j : ℕ) (d : BlockedValue) → j < length ts → IsWithin (2 ^ 41) v.group (get_or ts j d).flux
    fluxes j d lt =
        subst (IsWithin (2 ^ 41) v.group) (sym (ap (λ (t : BlockedValue). t.flux) (get_or_default ts j d no_tensor lt) ∙ (s j (omega (arith, lt, n))).flux)) (flux_small v h j)

pub chain_ready : (v : SumValue) → IsSum v → (ts : List BlockedValue) → length ts ≡ length v.sites → HaveShapes v ts → (gs : List charge.Factor) (sites : List LegValue) → gs ≡ v.group → sites ≡ site_legs v →
    IsChainReady gs sites ts
chain_ready v h ts n s gs sites eg es = subst (λ hs. IsChainReady hs sites ts) (sym eg) (subst (λ ls. IsChainReady v.group ls ts) (sym es) (ready v h ts n s))

-- ---- what a chain is

-- the elements of the automaton's chain are those of the sum
pub built_elements : (v : SumValue) → IsSum v → (c : ChainValue) → IsOnSites v c → IsAutomatonOf v c.tensors → IsOperatorChain (site_legs v) c.tensors → (u s : List ℕ) →
    IsValues (site_legs v) u → IsValues (site_legs v) s → element c.group c.tensors u s ≡ sum_element v u s
built_elements v h c on auto chain u s hu hs = ap (λ gs. element gs c.tensors u s) on.group ∙ sum_elements v c.tensors h auto chain u s hu hs
