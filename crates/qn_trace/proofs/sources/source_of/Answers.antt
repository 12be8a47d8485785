use Rattle.std.proofs.Common.{arith, ◌<◌, ℕ, List, lit<, subst, sym, ap, length}
use Rattle.std.specs.List.{All}
use Rattle.qn_index.specs.Tuples.{IsTuple}
use Rattle.qn_strides.specs.Strides.{SummedValue, KeptValue}
use Rattle.qn_strides.proofs.Striding.{kept_long, summed_long}
use Rattle.qn_strides.proofs.Counts.{goal_within, few_couples, few_open}
use Rattle.qn_trace.proofs.sources.source_of.Goals as goal

pub is_minus-requires : goal.is_minus-requires
is_minus-requires g c = (
  lit< tt,
  (
    lit< tt,
    (
      subst (IsTuple c.args.legs.now) (sym c.tuple-tuple.ensures) c.requires.block.0,
      subst (λ (gs : List ℕ). All (λ k. k < length c.args.legs.now) gs) (sym c.requires.goal) (goal_within c.args.legs.now c.args.couples.now c.requires.couples),
    ),
  ),
)

pub returns-clause-small : goal.returns-clause-small
returns-clause-small g c = record {
  few_kept =
      omega (
        arith,
        ap (λ (xs : List KeptValue). length xs) c.in_ok-kept.ensures.value,
        kept_long c.deref-2.result.now c.args.left.now c.args.sectors.now c.args.places.now c.requires.sectors (sym c.requires.left),
        c.requires.left,
        ap (λ (xs : List ℕ). length xs) c.requires.places,
        few_open c.args.legs.now c.args.couples.now c.requires.couples,
        c.requires.few,
      );
  few_summed =
      omega (
        arith,
        ap (λ (xs : List SummedValue). length xs) c.in_ok-summed.ensures.value,
        summed_long c.args.legs.now c.tuple-tuple.result.now c.args.couples.now,
        few_couples c.args.legs.now c.args.couples.now c.requires.couples,
        c.requires.few,
      );
  kept = c.in_ok-kept.ensures.kept;
  summed = c.in_ok-summed.ensures.small;
}
