use Rattle.std.proofs.Common.{arith, ◌∙◌, ◌++◌, ap, ap₂, length, List, map}
use Rattle.qn_permute.specs.declared.axis.Axis.{Axis}
use Rattle.qn_permute.specs.Axes.{no_axis, reach, places, entry_at_place}
use Rattle.qn_value.specs.Local.{picked}
use Rattle.qn_permute.proofs.Lines.{axes_length}
use Rattle.qn_permute.proofs.Moves.{moved_reach}
use Rattle.qn_permute.proofs.block.moved_entries.Goals as goal

pub axes_in_order-requires : goal.axes_in_order-requires
axes_in_order-requires g c =
    let long = ap (λ (xs : List Axis). length xs) (c.deref.ensures.value ∙ c.in_ok-own.ensures) in
    record { order = λ k d lt. let within = c.requires.order.within k d lt in omega (arith, within, long, axes_length c.args.legs.now c.args.tuple.now c.requires.tuple) }

pub append_entries-requires : goal.append_entries-requires
append_entries-requires g c =
    let moved = c.deref-2.ensures.value ∙ (c.in_ok-axes.ensures ∙ ap (λ xs. picked no_axis xs c.args.order.now) (c.deref.ensures.value ∙ c.in_ok-own.ensures)) in
    let same = ap reach moved in
    record { inside = omega (arith, same, moved_reach c.args.legs.now c.args.tuple.now c.args.order.now c.requires.order c.known_all.ensures c.requires.tuple, c.requires.full) }

pub returns : goal.returns
returns g c =
    let moved = c.deref-2.ensures.value ∙ (c.in_ok-axes.ensures ∙ ap (λ xs. picked no_axis xs c.args.order.now) (c.deref.ensures.value ∙ c.in_ok-own.ensures)) in
    c.in_ok-append_entries.ensures
    ∙ (ap (λ xs. xs ++ map (entry_at_place c.args.source.now c.in_ok-minus.minus) (places c.deref-2.result.now 0)) c.in_ok-entries.ensures.items
    ∙ ap₂ (λ s xs. map (entry_at_place c.args.source.now s) (places xs 0)) c.in_ok-minus.ensures moved)
