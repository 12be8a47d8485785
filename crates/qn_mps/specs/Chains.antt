-- Chains of tensors as they are held: matrix-product states and operators.
-- Source: Fishman, White and Stoudenmire 2022.
use Rattle.std.specs.Prelude.{◌≡◌, ◌≤◌, ◌^◌, ℕ, List, length, slice_set}
use Rattle.std.specs.List.{All}
use Rattle.qn_charge.specs.declared.factor.Factor.{Factor}
use Rattle.qn_charge.specs.Charges.{IsGroup, IsWithin}
use Rattle.qn_index.specs.Legs.{LegValue}
use Rattle.qn_block.specs.Blocked.{BlockedValue, IsBlocked}
use Rattle.qn_braket.specs.Chains.{IsChain, state_legs, operator_legs}
use Rattle.qn_mps.specs.declared.chain.ChainKind.{ChainKind}
use Rattle.qn_mps.specs.declared.chain.ChainKind.TheVariants.{State, Operator}

-- a chain: the group of its charges, what it stands for, the legs of its sites, and its tensors, one for each site
pub record ChainValue : Type 0 where
  pub group : List Factor
  pub kind : ChainKind
  pub sites : List LegValue
  pub tensors : List BlockedValue

-- the legs that a tensor has of its site: s of a state, s' and s of an operator
abbrev pub legs_of : ChainKind → LegValue → List LegValue
legs_of State l = state_legs l
legs_of Operator l = operator_legs l

-- a tensor over this group, whose flux has U(1) parts of size at most 2^41
pub record IsTensorOf (fs : List Factor) (t : BlockedValue) : Type 0 where
  pub blocked : IsBlocked t
  pub group : t.group ≡ fs
  pub flux : IsWithin (2 ^ 41) fs t.flux

-- what holds of each chain that is held: at most 64 sites, and tensors over its group that are a chain
pub record IsHeld (c : ChainValue) : Type 0 where
  pub group : IsGroup c.group
  pub few : length c.sites ≤ 64
  pub tensors : All (IsTensorOf c.group) c.tensors
  pub chain : IsChain (legs_of c.kind) c.sites c.tensors

-- the chain with this tensor on site j, counted from 0
abbrev pub with_tensor : ChainValue → ℕ → BlockedValue → ChainValue
with_tensor c j t = record { group = c.group; kind = c.kind; sites = c.sites; tensors = slice_set c.tensors j t }
