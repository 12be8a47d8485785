-- The networks of chains: their values, their labels, their fluxes.
use Rattle.std.specs.Prelude.{◌≡◌, ◌≤◌, ℕ, ℤ, None, List, [], length, map}
use Rattle.std.specs.List.{All}
use Rattle.qn_gauss.specs.Gaussian.{Gaussian}
use Rattle.qn_charge.specs.declared.factor.Factor.{Factor}
use Rattle.qn_charge.specs.Charges.{IsGroup, sum_charge, neg_charge}
use Rattle.qn_index.specs.Legs.{LegValue}
use Rattle.qn_index.specs.Places.{IsValues}
use Rattle.qn_value.specs.Fluxes.{sum_flux}
use Rattle.qn_block.specs.Blocked.{BlockedValue}
use Rattle.qn_net.specs.NetworkValues.{NetworkValue, value}
use Rattle.qn_net.specs.Refusals.{IsFaultless}
use Rattle.qn_braket.specs.Chains.{IsStateChain, IsOperatorChain, AreConjugates, IsOverlapNetwork, IsExpectNetwork, state_members, operator_members, overlap_members, expect_members, chain_flux, element, overlap, expectation}

-- the value of the overlap network of two state chains of the same sites is their overlap
abbrev pub OverlapNetworkLaw : Type 0
OverlapNetworkLaw =
    (fs : List Factor) (sites : List LegValue) (bra ket : List BlockedValue) (net : NetworkValue) →
    IsStateChain sites bra → IsStateChain sites ket → IsOverlapNetwork fs bra ket net → value net [] ≡ overlap fs sites bra ket

-- the value of the expectation network of chains of the same sites is the expectation of the operator chain
abbrev pub ExpectNetworkLaw : Type 0
ExpectNetworkLaw =
    (fs : List Factor) (sites : List LegValue) (bra op ket : List BlockedValue) (net : NetworkValue) →
    IsStateChain sites bra → IsOperatorChain sites op → IsStateChain sites ket → IsExpectNetwork fs bra op ket net →
    value net [] ≡ expectation fs sites (element fs op) bra ket

-- only the matrix elements at values of the sites matter to an expectation: an operator chain may be replaced by what it stands for
abbrev pub ElementsLaw : Type 0
ElementsLaw =
    (fs : List Factor) (sites : List LegValue) (bra ket : List BlockedValue) (op other : List ℕ → List ℕ → Gaussian) →
    ((t s : List ℕ) → IsValues sites t → IsValues sites s → op t s ≡ other t s) → expectation fs sites op bra ket ≡ expectation fs sites other bra ket

-- nothing is wrong with the labels of a state's or an operator's network
abbrev pub ChainFaultlessLaw : Type 0
ChainFaultlessLaw =
    (sites : List LegValue) (ts : List BlockedValue) → length sites ≤ 64 →
    (IsStateChain sites ts → IsFaultless (state_members ts) None []) × (IsOperatorChain sites ts → IsFaultless (operator_members ts) None [])

-- nor with those of an overlap's
abbrev pub OverlapFaultlessLaw : Type 0
OverlapFaultlessLaw =
    (sites : List LegValue) (bra conjugates ket : List BlockedValue) → length sites ≤ 64 →
    IsStateChain sites bra → AreConjugates bra conjugates → IsStateChain sites ket → IsFaultless (overlap_members conjugates ket) None []

-- nor with those of an expectation's
abbrev pub ExpectFaultlessLaw : Type 0
ExpectFaultlessLaw =
    (sites : List LegValue) (bra conjugates op ket : List BlockedValue) → length sites ≤ 64 →
    IsStateChain sites bra → AreConjugates bra conjugates → IsOperatorChain sites op → IsStateChain sites ket →
    IsFaultless (expect_members conjugates op ket) None []

-- the sum of the fluxes of a network's tensors
abbrev pub network_flux : NetworkValue → List ℤ
network_flux net = sum_flux net.group (map (λ m. m.placed.tensor.flux) net.members)

-- an overlap has the flux of the ket minus that of the bra
abbrev pub OverlapFluxLaw : Type 0
OverlapFluxLaw =
    (fs : List Factor) (bra ket : List BlockedValue) (net : NetworkValue) → IsGroup fs → All (λ t. t.group ≡ fs) bra →
    IsOverlapNetwork fs bra ket net → network_flux net ≡ sum_charge fs (chain_flux fs ket) (neg_charge fs (chain_flux fs bra))

-- an expectation has the flux of the operator and that of the ket minus that of the bra
abbrev pub ExpectFluxLaw : Type 0
ExpectFluxLaw =
    (fs : List Factor) (bra op ket : List BlockedValue) (net : NetworkValue) → IsGroup fs → All (λ t. t.group ≡ fs) bra →
    IsExpectNetwork fs bra op ket net →
    network_flux net ≡ sum_charge fs (sum_charge fs (chain_flux fs op) (chain_flux fs ket)) (neg_charge fs (chain_flux fs bra))
