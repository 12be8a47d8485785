use Rattle.std.proofs.Common.{◌≡◌, take}
use Rattle.qn_value.specs.Local.{picked}
use Rattle.qn_permute.specs.Axes.{no_axis}
use Rattle.qn_permute.proofs.axis.axes_in_order.Given as goal

abbrev pub invariant-loop-k : goal.invariant-loop-k
invariant-loop-k l = l.out.items ≡ picked no_axis l.axes (take l.k-index l.order)
