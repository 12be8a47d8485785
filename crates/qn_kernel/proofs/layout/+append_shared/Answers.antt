use Rattle.std.proofs.Common.{rules, arith, ap}
use Rattle.qn_kernel.specs.Sources.{stride_in}
use Rattle.qn_kernel.proofs.Shared.{axes_first, axes_rest, room_rest, stride_small, places_more}
use Rattle.qn_kernel.proofs.layout.+append_shared.Goals as goal

pub place_at-requires-clause-stride : goal.place_at-requires-clause-stride
place_at-requires-clause-stride t c =
    omega (arith, stride_small c.args.second c.in-Some.axis.now (axes_first c.in-Some.axis.now c.in-Some.rest.now c.args.axes.now (search rules) c.requires.axes), c.stride_in-stride.ensures, ap (stride_in c.args.second) c.axis.view_is)

pub append_shared-requires : goal.append_shared-requires
append_shared-requires t c = (
  search rules,
  (
    axes_rest c.in-Some.axis.now c.in-Some.rest.now c.args.axes.now (search rules) c.requires.axes,
    room_rest c.in-Some.axis.now c.in-Some.rest.now c.args.axes.now c.args.at c.place_at.result (search rules) c.requires.room c.place_at.ensures.bound,
  ),
)

pub loop-value-preserved : goal.loop-value-preserved
loop-value-preserved t c =
    places_more (stride_in c.args.second) c.in-Some.rest.now c.args.at c.stride_in-stride.result c.loop-value.value c.place_at.result c.args.out.now.items c.loop-value.out.items c.append_shared.new.out.items
    c.loop-value.invariant c.place_at.ensures.place (search rules)
