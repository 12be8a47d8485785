-- What has to hold of shapes that a step brings together.
use Rattle.std.specs.Prelude.{◌≡◌, ◌^◌, ℕ, ℤ, Bool, true, false, List, length, All}
use Rattle.qn_charge.specs.declared.factor.Factor.{Factor}
use Rattle.qn_charge.specs.Charges.{sum_charge, IsCanonical, IsWithin}
use Rattle.qn_match.specs.Cost.{IsShape}
use Rattle.qn_match.specs.Pairs.{ArePaired}
use Rattle.qn_index.specs.Legs.{IsLegOf}
use Rattle.qn_index.specs.Tuples.{IsFlux}
use Rattle.qn_plan.specs.declared.step.PlanFault.{PlanFault}
use Rattle.qn_plan.specs.declared.step.PlanFault.TheVariants.{StepWide, Memory}
use Rattle.qn_plan.specs.Shapes.{ShapeValue, shared_places, joined_shape, closed_shape}
use Rattle.qn_plan.specs.Planned.{is_too_wide}

-- the sum of two fluxes can be made
pub record AreAdded (fs : List Factor) (p q : List ℤ) : Type 0 where
  pub first : IsCanonical fs p
  pub second : IsCanonical fs q
  pub within : IsWithin (2 ^ 62) fs (sum_charge fs p q)

-- the two shapes can be contracted over these labels
pub record CanCost (fs : List Factor) (g h : ShapeValue) (summed : List ℤ) : Type 0 where
  pub first : IsShape fs g.legs g.flux
  pub second : IsShape fs h.legs h.flux
  pub pair : ArePaired fs g.legs g.flux h.legs h.flux (shared_places g.ends h.ends summed)

-- a shape that is not too wide can be looked at for its width
pub record CanMeasure (fs : List Factor) (s : ShapeValue) : Type 0 where
  pub charges : All (IsLegOf fs) s.legs
  pub flux : IsFlux fs s.flux

-- the two shapes can be brought together over these labels
pub record CanJoin (fs : List Factor) (g h : ShapeValue) (summed : List ℤ) : Type 0 where
  pub first : length g.ends ≡ length g.legs
  pub second : length h.ends ≡ length h.legs
  pub added : AreAdded fs g.flux h.flux
  pub measured : CanMeasure fs (joined_shape fs g h summed)
  pub cost : is_too_wide fs (joined_shape fs g h summed).legs (joined_shape fs g h summed).flux ≡ false → CanCost fs g h summed

-- the shape can be summed over these labels
pub record CanClose (fs : List Factor) (g : ShapeValue) (summed : List ℤ) : Type 0 where
  pub ends : length g.ends ≡ length g.legs
  pub measured : CanMeasure fs (closed_shape g summed)

-- the step with this number has a result that is too wide, or memory was wanting
abbrev pub IsWideStep : ℕ → Bool → PlanFault → Type 0
IsWideStep number wide (StepWide step) = (step ≡ number) × (wide ≡ true)
IsWideStep number wide Memory = Unit {0}
