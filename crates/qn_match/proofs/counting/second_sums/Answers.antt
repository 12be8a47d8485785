use Rattle.std.proofs.Common.{◌∙◌, lit<}
use Rattle.qn_match.specs.Keys.{numbers}
use Rattle.qn_match.proofs.Counted.{can_sum, sums_left, sums_bounded, second_key}
use Rattle.qn_match.proofs.counting.second_sums.Goals as goal

pub sums_by_key-requires : goal.sums_by_key-requires
sums_by_key-requires g c =
    let h = can_sum c.args.group.now c.args.legs.now c.args.flux.now c.args.shared.now c.args.bases.now c.deref.result.now c.deref-2.result.now c.deref-3.result.now
    (c.deref.ensures.value ∙ c.in_ok-marks.ensures) (c.deref-2.ensures.value ∙ c.in_ok-places.ensures) (c.deref-3.ensures.value ∙ c.in_ok-tuples.ensures) c.requires.shape c.requires.places c.requires.digits in
    (lit< tt, (h.count, (h.places, (c.requires.some, (c.requires.few, (h.tuples, (h.digits, h.small)))))))

pub returns-clause-value : goal.returns-clause-value
returns-clause-value g c =
    sums_left c.args.group.now c.args.legs.now c.args.flux.now c.args.shared.now c.args.bases.now c.deref.result.now c.deref-2.result.now c.deref-3.result.now c.sums_by_key.result
    (c.deref.ensures.value ∙ c.in_ok-marks.ensures) (c.deref-2.ensures.value ∙ c.in_ok-places.ensures) (c.deref-3.ensures.value ∙ c.in_ok-tuples.ensures) c.sums_by_key.ensures

pub returns-clause-small : goal.returns-clause-small
returns-clause-small g c =
    sums_bounded c.args.group.now c.args.legs.now c.args.flux.now c.args.shared.now (second_key c.args.bases.now c.args.shared.now) (numbers c.args.bases.now) c.sums_by_key.result c.known_all.ensures c.requires.shape (returns-clause-value g c)
