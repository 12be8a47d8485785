-- Why tensors are no chain, in the order in which it is looked for.
use Rattle.std.specs.Prelude.{◌≡◌, ◌≢◌, ◌<◌, ℕ, zero, suc, List, length}
use Rattle.qn_charge.specs.Firsts.{IsFirst}
use Rattle.qn_index.specs.Legs.{LegValue}
use Rattle.qn_block.specs.Blocked.{BlockedValue}
use Rattle.qn_braket.specs.Chains.{leg_at, tensor_at, AreLegsOf, HasLink}
use Rattle.qn_mps.specs.declared.chain.ChainKind.{ChainKind}
use Rattle.qn_mps.specs.declared.fault.ChainFault.{ChainFault}
use Rattle.qn_mps.specs.declared.fault.ChainFault.TheVariants.{ChainShape, LinkClash, Memory}
use Rattle.qn_mps.specs.Chains.{legs_of}

-- the tensor on site j, from 0, has the legs of its place
abbrev pub HasLegsAt : ChainKind → List LegValue → List BlockedValue → ℕ → Type 0
HasLegsAt kind sites ts j = AreLegsOf (legs_of kind (leg_at sites j)) (length sites) j (tensor_at ts j).legs

-- it has not
abbrev pub BadLegsAt : ChainKind → List LegValue → List BlockedValue → ℕ → Type 0
BadLegsAt kind sites ts j = (j < length sites) × (HasLegsAt kind sites ts j → ⊥)

-- the legs between site j and the next do not meet
abbrev pub ClashAt : List BlockedValue → ℕ → Type 0
ClashAt ts j = (suc j < length ts) × (HasLink ts j → ⊥)

-- as many tensors as sites, each with the legs of its place
abbrev pub HaveLegs : ChainKind → List LegValue → List BlockedValue → Type 0
HaveLegs kind sites ts = (length ts ≡ length sites) × ((j : ℕ) → j < length sites → HasLegsAt kind sites ts j)

-- and the legs between neighbours meet: nothing is wrong
abbrev pub IsFaultless : ChainKind → List LegValue → List BlockedValue → Type 0
IsFaultless kind sites ts = HaveLegs kind sites ts × ((j : ℕ) → suc j < length ts → HasLink ts j)

-- the first fault: the number of tensors, then their legs, tensor by tensor, then the links; sites are counted from 1
abbrev pub IsChainFault : ChainKind → List LegValue → List BlockedValue → ChainFault → Type 0
IsChainFault kind sites ts (ChainShape zero) = length ts ≢ length sites
IsChainFault kind sites ts (ChainShape (suc j)) = (length ts ≡ length sites) × IsFirst (BadLegsAt kind sites ts) j
IsChainFault kind sites ts (LinkClash zero) = ⊥
IsChainFault kind sites ts (LinkClash (suc j)) = HaveLegs kind sites ts × IsFirst (ClashAt ts) j
IsChainFault kind sites ts Memory = Unit {0}
