use Rattle.std.proofs.Common.{◌∙◌, ◌≤◌, ◌^◌, lit<, sym, subst}
use Rattle.std.specs.List.{All}
use Rattle.qn_index.specs.Tuples.{admitted}
use Rattle.qn_match.proofs.Counted.{are_bases, can_count, total_is, sums_moved}
use Rattle.qn_match.proofs.counting.cost.Goals as goal

pub second_sums-requires : goal.second_sums-requires
second_sums-requires g c =
    let h = are_bases c.args.group.now c.args.a_legs.now c.args.a_flux.now c.args.b_legs.now c.args.shared.now c.deref.result.now (c.deref.ensures.value ∙ c.in_ok-bases.ensures) c.known_all.ensures c.requires.first c.requires.pair.legs in
    (lit< tt, (lit< tt, (lit< tt, (c.requires.second, (c.requires.pair.legs.second, (h.some, (h.few, h.digits)))))))

pub total-requires : goal.total-requires
total-requires g c =
    let h = can_count c.args.group.now c.args.a_legs.now c.args.a_flux.now c.args.b_legs.now c.args.shared.now c.deref-3.result.now c.deref-2.result.now c.deref-4.result.now c.deref-5.result.now
    (c.deref-3.ensures.value ∙ c.in_ok-bases.ensures) (c.deref-2.ensures.value ∙ c.in_ok-places.ensures) (c.deref-4.ensures.value ∙ c.in_ok-tuples.ensures) c.known_all.ensures c.requires.first c.requires.pair.legs in
    let s = sums_moved c.args.b_legs.now c.args.shared.now (admitted c.args.group.now c.args.b_legs.now c.args.b_flux.now) c.deref.result.now c.in_ok-sums.sums.items c.deref-3.result.now c.deref-5.result.now
    (c.deref-3.ensures.value ∙ sym c.deref.ensures.value) c.deref-5.ensures.value c.in_ok-sums.ensures.value in
    let small = subst (λ ns. All (λ n. n ≤ 2 ^ 22) ns) (sym c.deref-5.ensures.value) c.in_ok-sums.ensures.small in
    (lit< tt, (h.places, (h.few, (h.tuples, (h.digits, (h.small, (s.count, small)))))))

pub returns : goal.returns
returns g c =
    let s = sums_moved c.args.b_legs.now c.args.shared.now (admitted c.args.group.now c.args.b_legs.now c.args.b_flux.now) c.deref.result.now c.in_ok-sums.sums.items c.deref-3.result.now c.deref-5.result.now
    (c.deref-3.ensures.value ∙ sym c.deref.ensures.value) c.deref-5.ensures.value c.in_ok-sums.ensures.value in
    c.total.ensures ∙ total_is c.args.group.now c.args.a_legs.now c.args.a_flux.now c.args.b_legs.now c.args.b_flux.now c.args.shared.now c.deref-3.result.now c.deref-2.result.now c.deref-4.result.now c.deref-5.result.now
    (c.deref-3.ensures.value ∙ c.in_ok-bases.ensures) (c.deref-2.ensures.value ∙ c.in_ok-places.ensures) (c.deref-4.ensures.value ∙ c.in_ok-tuples.ensures) c.requires.pair.legs s
