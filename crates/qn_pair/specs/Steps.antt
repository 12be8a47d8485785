-- A contraction of two tensors held in blocks.
use Rattle.std.specs.Prelude.{◌≡◌, ℕ, ℤ, Bool, Option, Some, List, [], ◌∷◌}
use Rattle.qn_gauss.specs.Gaussian.{Gaussian}
use Rattle.qn_charge.specs.Charges.{sum_charge}
use Rattle.qn_index.specs.Legs.{LegValue}
use Rattle.qn_index.specs.Tuples.{admitted}
use Rattle.qn_value.specs.Local.{open_legs, shared_couples, pair_entry}
use Rattle.qn_value.specs.Magnitudes.{Place, first_passing, passing_offset, pair_magnitude}
use Rattle.qn_block.specs.Blocked.{BlockedValue, tensor_of}
use Rattle.qn_block.specs.declared.step.StepFault.{StepFault}
use Rattle.qn_block.specs.declared.step.StepFault.TheVariants.{Passed, Memory}

-- the legs of the result
abbrev pub result_legs : BlockedValue → BlockedValue → List (ℕ × ℕ) → List LegValue
result_legs a b shared = open_legs (tensor_of a ∷ tensor_of b ∷ []) (shared_couples (tensor_of a) shared)

-- the first place of the result at which the sum of magnitudes is above 2^127 - 1: by the admissible tuples, ascending, and in a block by the offset
abbrev pub passing_place : BlockedValue → BlockedValue → List (ℕ × ℕ) → Option Place
passing_place a b shared =
    first_passing (pair_magnitude (tensor_of a) (tensor_of b) shared) (result_legs a b shared) (admitted a.group (result_legs a b shared) (sum_charge a.group a.flux b.flux))

-- the first passing place in the block of a task
abbrev pub passing_in : BlockedValue → BlockedValue → List (ℕ × ℕ) → List ℕ → Option ℕ
passing_in a b shared t = passing_offset (pair_magnitude (tensor_of a) (tensor_of b) shared) (result_legs a b shared) t

-- the block of a task has a passing place, the first of which is this one, or memory was wanting
abbrev pub IsTaskFault : BlockedValue → BlockedValue → List (ℕ × ℕ) → List ℕ → StepFault → Type 0
IsTaskFault a b shared t (Passed at offset) = (at ≡ t) × (passing_in a b shared t ≡ Some offset)
IsTaskFault a b shared t Memory = Unit {0}

-- the entry of a contraction at values of its legs
abbrev pub IsEntry : BlockedValue → BlockedValue → List (ℕ × ℕ) → Bool → List ℕ → Gaussian → Type 0
IsEntry a b shared between xs z = pair_entry (tensor_of a) (tensor_of b) shared between xs ≡ z

-- the flux of the result
abbrev pub result_flux : BlockedValue → BlockedValue → List ℤ
result_flux a b = sum_charge a.group a.flux b.flux
