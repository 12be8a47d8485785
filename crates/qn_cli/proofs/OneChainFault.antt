-- The first fault of the tensors of a chain is one, and a chain has none.
use Rattle.std.proofs.Common.{◌≡◌, zero, suc, List, refl, ap}
use Rattle.qn_index.specs.Legs.{LegValue}
use Rattle.qn_block.specs.Blocked.{BlockedValue}
use Rattle.qn_mps.specs.declared.chain.ChainKind.{ChainKind}
use Rattle.qn_mps.specs.declared.fault.ChainFault.{ChainFault}
use Rattle.qn_mps.specs.declared.fault.ChainFault.TheVariants.{ChainShape, LinkClash, Memory}
use Rattle.qn_mps.specs.Refusals.{BadLegsAt, ClashAt, IsFaultless, IsChainFault}
use Rattle.qn_net.proofs.OneFault.{first_once}

-- a cause other than want of memory
abbrev pub IsCause : ChainFault → Type 0
IsCause (ChainShape j) = Unit {0}
IsCause (LinkClash j) = Unit {0}
IsCause Memory = ⊥

pub one_chain_fault : (k : ChainKind) (sites : List LegValue) (ts : List BlockedValue) (e f : ChainFault) → IsCause e → IsCause f → IsChainFault k sites ts e → IsChainFault k sites ts f → e ≡ f
one_chain_fault k sites ts (ChainShape zero) (ChainShape zero) a b p q = refl
one_chain_fault k sites ts (ChainShape zero) (ChainShape (suc j)) a b p q = absurd (p q.0)
one_chain_fault k sites ts (ChainShape zero) (LinkClash zero) a b p q = absurd q
one_chain_fault k sites ts (ChainShape zero) (LinkClash (suc j)) a b p q = absurd (p q.0.0)
one_chain_fault k sites ts (ChainShape zero) Memory a b p q = absurd b
one_chain_fault k sites ts (ChainShape (suc i)) (ChainShape zero) a b p q = absurd (q p.0)
one_chain_fault k sites ts (ChainShape (suc i)) (ChainShape (suc j)) a b p q = ap (λ n. ChainShape (suc n)) (first_once (BadLegsAt k sites ts) i j p.1 q.1)
one_chain_fault k sites ts (ChainShape (suc i)) (LinkClash zero) a b p q = absurd q
one_chain_fault k sites ts (ChainShape (suc i)) (LinkClash (suc j)) a b p q = absurd (p.1.here.1 (q.0.1 i p.1.here.0))
one_chain_fault k sites ts (ChainShape (suc i)) Memory a b p q = absurd b
one_chain_fault k sites ts (LinkClash zero) f a b p q = absurd p
one_chain_fault k sites ts (LinkClash (suc i)) (ChainShape zero) a b p q = absurd (q p.0.0)
one_chain_fault k sites ts (LinkClash (suc i)) (ChainShape (suc j)) a b p q = absurd (q.1.here.1 (p.0.1 j q.1.here.0))
one_chain_fault k sites ts (LinkClash (suc i)) (LinkClash zero) a b p q = absurd q
one_chain_fault k sites ts (LinkClash (suc i)) (LinkClash (suc j)) a b p q = ap (λ n. LinkClash (suc n)) (first_once (ClashAt ts) i j p.1 q.1)
one_chain_fault k sites ts (LinkClash (suc i)) Memory a b p q = absurd b
one_chain_fault k sites ts Memory f a b p q = absurd a

pub no_chain_fault : (k : ChainKind) (sites : List LegValue) (ts : List BlockedValue) (e : ChainFault) → IsCause e → IsFaultless k sites ts → IsChainFault k sites ts e → ⊥
no_chain_fault k sites ts (ChainShape zero) a h p = p h.0.0
no_chain_fault k sites ts (ChainShape (suc j)) a h p = p.1.here.1 (h.0.1 j p.1.here.0)
no_chain_fault k sites ts (LinkClash zero) a h p = p
no_chain_fault k sites ts (LinkClash (suc j)) a h p = p.1.here.1 (h.1 j p.1.here.0)
no_chain_fault k sites ts Memory a h p = a
