-- A state chain in a document: its first fault, and what it stands for.
-- Source: Fishman, White and Stoudenmire 2022.
use Rattle.std.specs.Prelude.{◌≡◌, ◌⊎◌, ◌<◌, ◌≤◌, ℕ, ◌+◌, ◌^◌, List, length, map, not, ◌==◌, Option, Some, None}
use Rattle.std.specs.List.{All}
use Rattle.serde_json.specs.Data.{Data}
use Rattle.qn_charge.specs.declared.factor.Factor.{Factor}
use Rattle.qn_charge.specs.Charges.{IsWithin}
use Rattle.qn_index.specs.declared.leg.Dir.TheVariants.{Out}
use Rattle.qn_index.specs.Legs.{LegValue}
use Rattle.qn_block.specs.Blocked.{BlockedValue}
use Rattle.qn_sites.specs.Sites.{SiteValue}
use Rattle.qn_mps.specs.declared.chain.ChainKind.TheVariants.{State}
use Rattle.qn_mps.specs.declared.fault.ChainFault.{ChainFault}
use Rattle.qn_mps.specs.declared.fault.ChainFault.TheVariants.{ChainShape, LinkClash, Memory}
use Rattle.qn_mps.specs.Chains.{ChainValue}
use Rattle.qn_mps.specs.Refusals.{IsChainFault, IsFaultless}
use Rattle.qn_parts.specs.declared.fault.Fault.{Fault}
use Rattle.qn_parts.specs.Faults.{fault, fault_if, first_of, ◌then◌}
use Rattle.qn_json.specs.Tree.{items, member_of}
use Rattle.qn_parts.specs.Tensors.{tensor_of, tensor_fault}
use Rattle.qn_parts.specs.Documents.{factors_of}
use Rattle.qn_sumdoc.specs.Sites.{sites_of}

-- the legs of sites
abbrev pub site_legs : List SiteValue → List LegValue
site_legs ss = map (λ (s : SiteValue). s.leg) ss

-- the data of the tensors under a key
abbrev pub tensors_data : List ℕ → Data → List Data
tensors_data key d = items (member_of key d)

-- the tensors that are meant
abbrev pub tensors_of : List ℕ → Data → List BlockedValue
tensors_of key d = map (tensor_of (factors_of d)) (tensors_data key d)

-- the chain that is meant
abbrev pub chain_of : List ℕ → Data → ChainValue
chain_of key d = record { group = factors_of d; kind = State; sites = site_legs (sites_of d); tensors = tensors_of key d }

-- F34: not one tensor for each site; then F8 to F19 tensor by tensor, where the tensor on site j has the number base + j
abbrev pub tensors_fault : List ℕ → ℕ → Data → Option Fault
tensors_fault key base d =
    fault_if (not (length (tensors_data key d) == length (sites_of d))) (fault 34 base 0 0)
    then first_of (λ k t. tensor_fault (factors_of d) (base + k) t) (tensors_data key d)

-- the place in the document of what keeps tensors from being a chain: F34 and F35
abbrev pub placed : ℕ → ChainFault → Option Fault
placed base (ChainShape j) = Some (fault 34 (base + j) 0 0)
placed base (LinkClash j) = Some (fault 35 (base + j) 0 0)
placed base Memory = None

-- the first fault of the legs of the tensors: F34 tensor by tensor, then F35 link by link
abbrev pub IsLegsFault : List ℕ → ℕ → Data → Fault → Type 0
IsLegsFault key base d f = (e : ChainFault) × (placed base e ≡ Some f) × IsChainFault State (site_legs (sites_of d)) (tensors_of key d) e

-- the first fault of a chain
abbrev pub IsFaultOfChain : List ℕ → ℕ → Data → Fault → Type 0
IsFaultOfChain key base d f = (tensors_fault key base d ≡ Some f) ⊎ ((tensors_fault key base d ≡ None) × IsLegsFault key base d f)

-- a chain without a fault
pub record IsRightChain (key : List ℕ) (base : ℕ) (d : Data) : Type 0 where
  pub tensors : tensors_fault key base d ≡ None
  pub legs : IsFaultless State (site_legs (sites_of d)) (tensors_of key d)

-- the chain that is meant, with nothing at fault
pub record IsChainOf (key : List ℕ) (d : Data) (c : ChainValue) : Type 0 where
  pub is : c ≡ chain_of key d
  pub right : IsFaultless State (site_legs (sites_of d)) (tensors_of key d)

-- a tensor over this group, whose flux has U(1) parts of size at most 2^41
pub record IsStateTensor (fs : List Factor) (t : BlockedValue) : Type 0 where
  pub group : t.group ≡ fs
  pub flux : IsWithin (2 ^ 41) fs t.flux

-- the tensors that are meant
pub record AreTensorsOf (key : List ℕ) (d : Data) (ts : List BlockedValue) : Type 0 where
  pub are : ts ≡ tensors_of key d
  pub each : All (IsStateTensor (factors_of d)) ts

-- the legs of the sites that are meant, 1 to 64, each Out
pub record AreLegsOf (d : Data) (ls : List LegValue) : Type 0 where
  pub are : ls ≡ site_legs (sites_of d)
  pub some : 0 < length ls
  pub few : length ls ≤ 64
  pub out : All (λ (l : LegValue). l.arrow ≡ Out) ls
