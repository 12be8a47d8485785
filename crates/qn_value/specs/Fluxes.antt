-- Conservation of charge in contractions.
-- Singh, Pfeifer and Vidal 2010.
use Rattle.std.specs.Prelude.{◌≡◌, ℕ, ℤ, Bool, true, false, ◌⊎◌, List, [], ◌∷◌, map}
use Rattle.qn_gauss.specs.Gaussian.{zero_g}
use Rattle.qn_charge.specs.declared.factor.Factor.{Factor}
use Rattle.qn_charge.specs.Charges.{IsGroup, zero_charge, sum_charge, parity}
use Rattle.qn_index.specs.declared.leg.Dir.{Dir}
use Rattle.qn_index.specs.declared.leg.Dir.TheVariants.{Out, In}
use Rattle.qn_index.specs.Legs.{SectorValue}
use Rattle.qn_index.specs.Tuples.{turned}
use Rattle.qn_index.specs.Legs.{charge_at}
use Rattle.qn_value.specs.Networks.{End, Node, Bond, Assignment, Parities, values, contract, IsNetwork, IsHomogeneous, AreHomogeneous}
use Rattle.qn_value.specs.Labels.{Placed, slots, node_of, sectors_on, parity_of, IsUniform, AllPlaced}
use Rattle.qn_value.specs.Magnitudes.{total, magnitudes}

-- the charge of each value of each line
abbrev pub Charges : Type 0
Charges = ℤ → ℕ → List ℤ

abbrev pub arrow_of : Bool → Dir
arrow_of true = In
arrow_of false = Out

-- the charges of the Out legs minus those of the In legs
abbrev pub net_at : List Factor → Charges → List End → Assignment → List ℤ
net_at fs charge [] a = zero_charge fs
net_at fs charge (e ∷ es) a = sum_charge fs (turned fs (arrow_of e.inward) (charge e.label (a e))) (net_at fs charge es a)

-- each entry is 0, or its values meet the flux
abbrev pub Conserves : List Factor → Charges → Node → List ℤ → Type 0
Conserves fs charge n flux = (a : Assignment) → (net_at fs charge n.ends a ≡ flux) ⊎ (n.entry (values n.ends a) ≡ zero_g)

-- the tensors, each with its flux
abbrev pub AllConserve : List Factor → Charges → List Node → List (List ℤ) → Type 0
AllConserve fs charge [] [] = Unit {0}
AllConserve fs charge [] (q ∷ qs) = ⊥
AllConserve fs charge (n ∷ ns) [] = ⊥
AllConserve fs charge (n ∷ ns) (q ∷ qs) = Conserves fs charge n q × AllConserve fs charge ns qs

abbrev pub sum_flux : List Factor → List (List ℤ) → List ℤ
sum_flux fs [] = zero_charge fs
sum_flux fs (q ∷ qs) = sum_charge fs q (sum_flux fs qs)

-- a contraction of some tensors has the sum of their fluxes
abbrev pub FluxLaw : Type 0
FluxLaw =
    (fs : List Factor) (charge : Charges) (par : Parities) (ns : List Node) (qs : List (List ℤ)) (bonds : List Bond) (opens : List End) →
    IsGroup fs → IsNetwork ns bonds opens → AllConserve fs charge ns qs → Conserves fs charge (contract par ns bonds opens) (sum_flux fs qs)

-- a tensor that conserves charge has the parity of its flux
abbrev pub FluxParityLaw : Type 0
FluxParityLaw =
    (fs : List Factor) (charge : Charges) (n : Node) (flux : List ℤ) → IsGroup fs →
    Conserves fs charge n flux → parity fs flux ≡ n.odd → IsHomogeneous (λ l v. parity fs (charge l v)) n

-- the charge of a value of a line is that of its sector
abbrev pub charge_on : (ℤ → List SectorValue) → Charges
charge_on sectors l v = charge_at (sectors l) v

-- tensors whose legs meet on each line conserve charge in their network, and have the parities of their fluxes
abbrev pub PlacedLaw : Type 0
PlacedLaw =
    (fs : List Factor) (ps : List Placed) → IsGroup fs → AllPlaced fs ps → IsUniform (slots ps) →
    AllConserve fs (charge_on (sectors_on (slots ps))) (map node_of ps) (map (λ p. p.tensor.flux) ps)
    × AreHomogeneous (parity_of fs (slots ps)) (map node_of ps)

-- off the flux every summand is 0, so only the admissible tuples of a result need be looked at
abbrev pub SilentLaw : Type 0
SilentLaw =
    (fs : List Factor) (charge : Charges) (ns : List Node) (qs : List (List ℤ)) (bonds : List Bond) (opens : List End) (a : Assignment) → IsGroup fs →
    AllConserve fs charge ns qs → IsNetwork ns bonds opens → (net_at fs charge opens a ≡ sum_flux fs qs → ⊥) → total bonds (magnitudes ns) a ≡ 0
