use Rattle.std.proofs.Common.{arith, ◌∙◌, ◌<◌, ◌≤◌, sym, subst, lit<}
use Rattle.std.specs.List.{All}
use Rattle.qn_index.specs.Legs.{IsLeg, IsOf}
use Rattle.qn_index.specs.Tuples.{IsFlux, count}
use Rattle.qn_block.specs.Combiners.{AreTuples, number_of_values}
use Rattle.qn_block.proofs.Located.{are_tuples}
use Rattle.qn_block.proofs.Fusing.{too_many_values, count_below, no_leg_fault}
use Rattle.qn_block.proofs.combiner.fuse.Goals as goal

pub returns-then-count_values-gt-MAX_VALUES-clause-err : goal.returns-then-count_values-gt-MAX_VALUES-clause-err
returns-then-count_values-gt-MAX_VALUES-clause-err g c =
    let many : 1048576 < number_of_values c.args.legs.now = omega (arith, c.count_values.ensures) in
    (c.requires.some, too_many_values c.args.group.now c.args.legs.now c.args.dir many)

pub fused_charges-requires : goal.fused_charges-requires
fused_charges-requires g c =
    let few : number_of_values c.args.legs.now ≤ 1048576 = omega (arith, c.count_values.ensures) in
    let below : count c.args.legs.now ≤ number_of_values c.args.legs.now = count_below c.args.legs.now c.known_all.ensures in
    (lit< tt, (lit< tt, (lit< tt, (c.requires.few, (c.requires.group, omega (arith, few, below))))))

pub fused_parts-requires : goal.fused_parts-requires
fused_parts-requires g c =
    let few : number_of_values c.args.legs.now ≤ 1048576 = omega (arith, c.count_values.ensures) in
    let below : count c.args.legs.now ≤ number_of_values c.args.legs.now = count_below c.args.legs.now c.known_all.ensures in
    (lit< tt, (lit< tt, (lit< tt, (lit< tt, (c.requires.few, (c.requires.group, (omega (arith, few, below), (few, (c.deref.ensures.value ∙ c.in_ok-charges.ensures.charges, subst (All (IsFlux c.args.group.now)) (sym c.deref.ensures.value) c.in_ok-charges.ensures.fluxes)))))))))

pub returns-in-Err-clause-err : goal.returns-in-Err-clause-err
returns-in-Err-clause-err g c = (
  c.requires.some,
  λ h.
      no_leg_fault c.args.group.now c.in_ok-sectors.sectors.items c.in-Err.field-0 (subst IsLeg (sym c.in_ok-sectors.ensures.sectors) h.leg) (subst (All (IsOf c.args.group.now)) (sym c.in_ok-sectors.ensures.sectors) h.charges) c.in-Err.ensures.err,
)

pub returns-clause-count : goal.returns-clause-count
returns-clause-count g c =
    let few : number_of_values c.args.legs.now ≤ 1048576 = omega (arith, c.count_values.ensures) in
    let below : count c.args.legs.now ≤ number_of_values c.args.legs.now = count_below c.args.legs.now c.known_all.ensures in
    omega (arith, few, below)

pub returns-clause-tuples : goal.returns-clause-tuples
returns-clause-tuples g c = subst (AreTuples c.args.legs.now) (sym c.in_ok-sectors.ensures.starts) (are_tuples c.args.group.now c.args.legs.now c.args.dir c.known.ensures.group)
