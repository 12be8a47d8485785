-- Why a step on tensors has no result.
use Rattle.std.specs.Prelude.{◌≡◌, Option, Some}
use Rattle.qn_value.specs.Magnitudes.{Place}
use Rattle.qn_block.specs.declared.step.StepFault.{StepFault}
use Rattle.qn_block.specs.declared.step.StepFault.TheVariants.{Passed, Memory}

-- the first place at which the sum of magnitudes is above 2^127 - 1 is this one, or memory was wanting
abbrev pub IsStepFault : Option Place → StepFault → Type 0
IsStepFault first (Passed at offset) = first ≡ Some (record { tuple = at; offset = offset })
IsStepFault first Memory = Unit {0}
