use Rattle.std.proofs.Common.{rules, refl, get_or, ap, sym}
use Rattle.std.proofs.lemmas.Bool.{false≢true}
use Rattle.qn_strides.specs.Strides.{SummedValue}
use Rattle.qn_gauss.specs.Gaussian.{zero_g, mag}
use Rattle.qn_strides.proofs.Adding.{added_first, added_more, axes_rest, room_rest, along_passes, along_all, along_fits}
use Rattle.qn_strides.proofs.sum.+add_along.Goals as goal

pub loop-value-init : goal.loop-value-init
loop-value-init t c = added_first _ _ _ _ _ c.requires.bound c.requires.within

pub add_along-requires : goal.add_along-requires
add_along-requires t c = (
  search rules,
  (
    axes_rest c.in-Some.axis.now c.in-Some.rest.now c.args.axes.now (search rules) c.requires.axes,
    (
      room_rest c.in-Some.axis.now c.in-Some.rest.now c.args.axes.now c.args.start c.place_at-place.result (search rules) c.requires.room c.place_at-place.ensures.bound,
      (c.loop-value.invariant.small, c.loop-value.invariant.within),
    ),
  ),
)

pub returns-in-None-add_along-clause-none : goal.returns-in-None-add_along-clause-none
returns-in-None-add_along-clause-none t c = (
  (λ e. along_passes (λ p. get_or c.args.entries.now p zero_g) (λ p. mag (get_or c.args.entries.now p zero_g)) c.in-Some.axis.now c.in-Some.rest.now c.args.axes.now c.args.start c.args.minus c.args.sum c.args.size
      c.loop-value.value c.loop-value.total c.loop-value.bound c.place_at-place.result c.axis.inside.stride (search rules) (ap (λ (x : SummedValue). x.stride) c.axis.view_is) c.loop-value.invariant (search rules) (search rules) (search rules)),
  (λ p. refl),
)

pub loop-value-preserved : goal.loop-value-preserved
loop-value-preserved t c = added_more _ _ _ _ _ _ _ _ _ _ c.loop-value.invariant (search rules) (search rules) (search rules) (search rules)

pub returns-after-loop-value-clause-value : goal.returns-after-loop-value-clause-value
returns-after-loop-value-clause-value t c =
    (along_all (λ p. get_or c.args.entries.now p zero_g) (λ p. mag (get_or c.args.entries.now p zero_g)) c.in-Some.axis.now c.in-Some.rest.now c.args.axes.now c.args.start c.args.minus c.args.sum c.args.size
    c.loop-value.value c.loop-value.total c.loop-value.bound c.axis.inside.stride (search rules) (ap (λ (x : SummedValue). x.stride) c.axis.view_is) c.loop-value.invariant (search rules)).value

pub returns-after-loop-value-clause-size : goal.returns-after-loop-value-clause-size
returns-after-loop-value-clause-size t c =
    (along_all (λ p. get_or c.args.entries.now p zero_g) (λ p. mag (get_or c.args.entries.now p zero_g)) c.in-Some.axis.now c.in-Some.rest.now c.args.axes.now c.args.start c.args.minus c.args.sum c.args.size
    c.loop-value.value c.loop-value.total c.loop-value.bound c.axis.inside.stride (search rules) (ap (λ (x : SummedValue). x.stride) c.axis.view_is) c.loop-value.invariant (search rules)).size_is

pub returns-after-loop-value-clause-none : goal.returns-after-loop-value-clause-none
returns-after-loop-value-clause-none t c = (
  (λ e. absurd (false≢true (sym e))),
  (λ p. absurd (along_fits (λ p. get_or c.args.entries.now p zero_g) (λ p. mag (get_or c.args.entries.now p zero_g)) c.args.axes.now c.args.start c.args.minus c.args.sum c.args.size c.loop-value.total c.loop-value.bound
      (along_all (λ p. get_or c.args.entries.now p zero_g) (λ p. mag (get_or c.args.entries.now p zero_g)) c.in-Some.axis.now c.in-Some.rest.now c.args.axes.now c.args.start c.args.minus c.args.sum c.args.size
      c.loop-value.value c.loop-value.total c.loop-value.bound c.axis.inside.stride (search rules) (ap (λ (x : SummedValue). x.stride) c.axis.view_is) c.loop-value.invariant (search rules)) p)),
)
