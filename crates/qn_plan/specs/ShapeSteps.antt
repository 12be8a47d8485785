-- What steps do to the shapes of tensors.
use Rattle.std.specs.Prelude.{ℕ, ℤ, ◌||◌, List, map, if◌then◌else◌, slice_set}
use Rattle.std.specs.List.{remove}
use Rattle.qn_charge.specs.declared.factor.Factor.{Factor}
use Rattle.qn_match.specs.Cost.{cost_of}
use Rattle.qn_net.specs.Steps.{meets_condition}
use Rattle.qn_net.specs.Steps.Kind.{pair_step, trace_step, fuse_step}
use Rattle.qn_plan.specs.Planned.{StepValue}
use Rattle.qn_plan.specs.Shapes.{ShapeValue, shape_at, shared_places, joined_shape, closed_shape}

-- the step that brings two shapes together
abbrev pub joined_step : List Factor → ShapeValue → ShapeValue → List ℤ → StepValue
joined_step fs g h summed = record {
  kind = if meets_condition g.role (map (λ e. e.label) g.ends) summed || meets_condition h.role (map (λ e. e.label) h.ends) summed then fuse_step else pair_step;
  first = g.number;
  second = h.number;
  labels = summed;
  cost =
      if meets_condition g.role (map (λ e. e.label) g.ends) summed || meets_condition h.role (map (λ e. e.label) h.ends) summed then 0 else
      cost_of fs g.legs g.flux h.legs h.flux (shared_places g.ends h.ends summed);
}

-- the step that sums a shape over labels of its own
abbrev pub closed_step : ShapeValue → List ℤ → StepValue
closed_step g summed = record { kind = trace_step; first = g.number; second = 0; labels = summed; cost = 0 }

-- the result stands in the place of the earlier shape, and the later one is gone
abbrev pub joined_shapes : List Factor → List ShapeValue → ℕ → ℕ → List ℤ → List ShapeValue
joined_shapes fs ss i j summed = slice_set (remove ss j) i (joined_shape fs (shape_at ss i) (shape_at ss j) summed)

abbrev pub closed_shapes : List ShapeValue → ℕ → List ℤ → List ShapeValue
closed_shapes ss i summed = slice_set ss i (closed_shape (shape_at ss i) summed)
