-- What it is to carry out the next step of a plan on shapes.
use Rattle.std.specs.Prelude.{◌≡◌, ◌+◌, ◌++◌, ◌∷◌, [], ℕ, ℤ, true, false, Some, List, length}
use Rattle.qn_net.specs.NetworkValues.{NetworkValue}
use Rattle.qn_plan.specs.Shapes.{WalkValue, shape_at, joined_shape, closed_shape}
use Rattle.qn_plan.specs.Planned.{StepValue, is_too_wide, first_wide}
use Rattle.qn_plan.specs.Conditions.{CanJoin, CanClose}
use Rattle.qn_plan.specs.ShapeSteps.{joined_step, closed_step, joined_shapes, closed_shapes}
use Rattle.qn_plan.specs.Reached.{IsReached}

-- the next step brings the shapes at two places together over these labels; after it `rest` is still to be taken
pub record IsPairNext (net : NetworkValue) (rest : List ℤ) (list : List StepValue) (w : WalkValue) (i j : ℕ) (summed left : List ℤ) : Type 0 where
  pub ready : CanJoin net.group (shape_at w.shapes i) (shape_at w.shapes j) summed
  pub wide : is_too_wide net.group (joined_shape net.group (shape_at w.shapes i) (shape_at w.shapes j) summed).legs (joined_shape net.group (shape_at w.shapes i) (shape_at w.shapes j) summed).flux ≡ true →
      first_wide net ≡ Some (length list + 1)
  pub done : is_too_wide net.group (joined_shape net.group (shape_at w.shapes i) (shape_at w.shapes j) summed).legs (joined_shape net.group (shape_at w.shapes i) (shape_at w.shapes j) summed).flux ≡ false →
      IsReached net rest (list ++ joined_step net.group (shape_at w.shapes i) (shape_at w.shapes j) summed ∷ []) (record { shapes = joined_shapes net.group w.shapes i j summed; left = left })

-- the next step sums the shape at a place over these labels
pub record IsTraceNext (net : NetworkValue) (rest : List ℤ) (list : List StepValue) (w : WalkValue) (i : ℕ) (summed left : List ℤ) : Type 0 where
  pub ready : CanClose net.group (shape_at w.shapes i) summed
  pub wide : is_too_wide net.group (closed_shape (shape_at w.shapes i) summed).legs (closed_shape (shape_at w.shapes i) summed).flux ≡ true → first_wide net ≡ Some (length list + 1)
  pub done : is_too_wide net.group (closed_shape (shape_at w.shapes i) summed).legs (closed_shape (shape_at w.shapes i) summed).flux ≡ false →
      IsReached net rest (list ++ closed_step (shape_at w.shapes i) summed ∷ []) (record { shapes = closed_shapes w.shapes i summed; left = left })
