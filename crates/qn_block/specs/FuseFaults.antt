-- Why legs can't be fused.
use Rattle.std.specs.Prelude.{◌<◌, ◌≡◌, List, [], length}
use Rattle.qn_charge.specs.declared.factor.Factor.{Factor}
use Rattle.qn_index.specs.declared.leg.Dir.{Dir}
use Rattle.qn_index.specs.Legs.{LegValue}
use Rattle.qn_block.specs.Combiners.{IsFusable}
use Rattle.qn_block.specs.declared.fault.FuseFault.{FuseFault}
use Rattle.qn_block.specs.declared.fault.FuseFault.TheVariants.{Empty, FusedRange, Memory}

-- there is no leg, or the fused leg breaks a limit of a leg
abbrev pub IsFuseFault : List Factor → List LegValue → Dir → FuseFault → Type 0
IsFuseFault fs ls arrow Empty = ls ≡ []
IsFuseFault fs ls arrow FusedRange = (0 < length ls) × (IsFusable fs ls arrow → ⊥)
IsFuseFault fs ls arrow Memory = Unit {0}

-- the fused leg breaks a limit for this reason
abbrev pub IsRangeFault : Type 0 → FuseFault → Type 0
IsRangeFault P Empty = ⊥
IsRangeFault P FusedRange = P
IsRangeFault P Memory = Unit {0}
