-- What holds along the steps of a plan, and what they lead to.
use Rattle.std.specs.Prelude.{◌≡◌, ℕ, ℤ, true, List, [], ◌∷◌, ◌++◌, map}
use Rattle.std.specs.Ordering.{int_eq}
use Rattle.qn_sign.specs.Sign.{is_in}
use Rattle.qn_value.specs.Networks.{End, Node, Bond, Parities, labels, flat, at_values, moved, AreHomogeneous, IsNetwork}
use Rattle.qn_net.specs.Groups.{Member, TensorGroup, nodes, AreInOrder}
use Rattle.qn_net.specs.Steps.{Step, State, after, carry, IsStepAt}
use Rattle.qn_net.specs.Plans.{plan, first_state}
use Rattle.qn_net.specs.Parts.{AreMadeAsParts}

-- what holds of the groups: their tensors and the lines left are a network, each tensor has the parity of its flux and is the part of its group, and the numbers ascend
pub record IsSoundState (par : Parities) (opens : List End) (s : State) : Type 0 where
  pub network : IsNetwork (nodes s.groups) s.left opens
  pub homogeneous : AreHomogeneous par (nodes s.groups)
  pub parts : AreMadeAsParts par s.groups
  pub ordered : AreInOrder s.groups

-- each state that the steps go through is sound, and each step is one of its state
abbrev pub AllSound : Parities → List End → List Step → State → Type 0
AllSound par opens [] s = IsSoundState par opens s
AllSound par opens (t ∷ ts) s = IsSoundState par opens s × IsStepAt s t × AllSound par opens ts (after par t)

-- the order names each line
abbrev pub Covers : List ℤ → List Bond → Type 0
Covers order bonds = (l : ℤ) → is_in int_eq l (labels bonds) ≡ true → is_in int_eq l order ≡ true

-- whatever the order, the steps end with one tensor, which in the order of the open legs is the value of the network
abbrev pub PlanLaw : Type 0
PlanLaw =
    (par : Parities) (m : Member) (ms : List Member) (bonds : List Bond) (opens : List End) (order : List ℤ) →
    let ns : List Node = map (λ k. k.node) (m ∷ ms) in
    let s : State = first_state (m ∷ ms) bonds in
    let ts : List Step = plan par order s in
    IsNetwork ns bonds opens → AreHomogeneous par ns → Covers order bonds →
    AllSound par opens ts s
    × ((last : TensorGroup) × (carry par ts s ≡ record { groups = last ∷ []; left = [] })
    × ((xs : List ℕ) → flat par ns bonds opens (at_values opens xs) ≡ (moved par last.node opens).entry xs))

-- the steps one by one: what holds after some of them
abbrev pub StepsLaw : Type 0
StepsLaw =
    (par : Parities) (opens : List End) (ts us : List Step) (s : State) → AllSound par opens (ts ++ us) s →
    AllSound par opens us (carry par ts s) × (carry par (ts ++ us) s ≡ carry par us (carry par ts s))

-- after any of the steps each tensor that they made is the part of its group
abbrev pub PartLaw : Type 0
PartLaw =
    (par : Parities) (opens : List End) (ts us : List Step) (s : State) → AllSound par opens (ts ++ us) s → AreMadeAsParts par (carry par ts s).groups
