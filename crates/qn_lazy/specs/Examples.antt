-- A rule of a leg with three values, contracted with a vector that has one block.
use Rattle.std.specs.Prelude.{◌≡◌, pos, false, List, [], ◌∷◌}
use Rattle.qn_charge.specs.declared.factor.Factor.{Factor}
use Rattle.qn_charge.specs.declared.factor.Factor.TheVariants.{U1}
use Rattle.qn_charge.specs.Charges.{zero_charge}
use Rattle.qn_index.specs.declared.leg.Dir.TheVariants.{Out}
use Rattle.qn_index.specs.Legs.{LegValue}
use Rattle.qn_index.specs.Extents.{entries}
use Rattle.qn_value.specs.Tensors.{BlockValue}
use Rattle.qn_value.specs.Examples.{whole}
use Rattle.qn_lazy.specs.Asked.{asked_of}
use Rattle.qn_lazy.specs.LegRules.{legs_of}

abbrev pub bosons : List Factor
bosons = U1 false ∷ []

-- values of charge 0, 1 and 2
abbrev pub three : LegValue
three = record { arrow = Out; sectors = record { charge = pos 0 ∷ []; dim = 1 } ∷ record { charge = pos 1 ∷ []; dim = 1 } ∷ record { charge = pos 2 ∷ []; dim = 1 } ∷ [] }

abbrev pub stored : List BlockValue
stored = record { tuple = 2 ∷ []; entries = whole 5 ∷ [] } ∷ []

-- the rule is asked once at most
abbrev pub AsksOnce : Type 0
AsksOnce = asked_of bosons (legs_of three) (zero_charge bosons) ((1, 0) ∷ []) stored ≡ 1

-- its table has three entries
abbrev pub HasThree : Type 0
HasThree = entries bosons (legs_of three) (zero_charge bosons) ≡ 3
