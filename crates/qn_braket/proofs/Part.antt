-- A part of a network is contracted, to open ends in any order.
use Rattle.std.proofs.Common.{◌≡◌, ℕ, ℤ, Bool, List, ◌∷◌, ◌++◌, sym, ◌∙◌, ap}
use Rattle.qn_value.specs.Networks.{End, Node, Bond, Assignment, values, flat, contract, IsNetwork}
use Rattle.qn_value.proofs.Sums.{DependsOn}
use Rattle.qn_value.proofs.NetLaws.{values-agree}
use Rattle.qn_value.proofs.Steps.{any_block_value, any_block_network}
use Rattle.qn_value.proofs.OrderLaws.{contract_at}

-- the entry of a contraction at the values that an assignment gives
pub contract_entry : (par : ℤ → ℕ → Bool) (ns : List Node) (bs : List Bond) (opens : List End) → IsNetwork ns bs opens → (a : Assignment) →
    (contract par ns bs opens).entry (values opens a) ≡ flat par ns bs opens a
contract_entry par ns bs opens net a = sym (contract_at par ns bs opens net.complete a)

-- the value depends on the open values only
pub flat-agree : (par : ℤ → ℕ → Bool) (ns : List Node) (bs : List Bond) (opens : List End) → IsNetwork ns bs opens →
    DependsOn opens (flat par ns bs opens)
flat-agree par ns bs opens net a c h =
    contract_at par ns bs opens net.complete a ∙ ap (contract par ns bs opens).entry (values-agree opens a c h) ∙ contract_entry par ns bs opens net c

module _ (par : ℤ → ℕ → Bool) (pre mid post : List Node) (shared rest : List Bond) (kept opens : List End)
    (net : IsNetwork (pre ++ (mid ++ post)) (shared ++ rest) opens) (own : IsNetwork mid shared kept) where
  pub part_network : IsNetwork (pre ++ (contract par mid shared kept ∷ post)) rest opens
  part_network = any_block_network pre mid post shared rest kept opens net own.complete par

  pub part_value : (a : Assignment) → flat par (pre ++ (mid ++ post)) (shared ++ rest) opens a ≡ flat par (pre ++ (contract par mid shared kept ∷ post)) rest opens a
  part_value a = any_block_value pre mid post shared rest kept opens net own.complete par a
