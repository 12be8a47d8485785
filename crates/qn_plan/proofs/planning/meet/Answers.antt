use Rattle.std.proofs.Common.{rules, to_z, of_z, w64, ◌≡◌, ◌<◌, ◌+◌, lit<, ◌∙◌, length, drop, arith}
use Rattle.qn_plan.proofs.Bringing.{on_ok, pair_here, trace_here}
use Rattle.qn_plan.proofs.planning.meet.Goals as goal

pub bring-requires : goal.bring-requires
bring-requires g c =
    let item : to_z w64 (of_z w64 c.args.label) ≡ c.args.label = search rules in
    let shapes : c.walk.inside.shapes.items ≡ c.args.walk.now.shapes = search rules in
    let left : c.walk.inside.left.items ≡ c.args.walk.now.left = search rules in
    let some : length c.deref.result.now ≡ length c.args.walk.now.shapes = search rules in
    let above : c.args.first < c.in-Some.second = omega (arith, c.in-Some.ensures.0) in
    let below : c.in-Some.second < length c.args.walk.now.shapes = omega (arith, c.in-Some.ensures.1, some) in
    let few : length c.args.steps.now.items < 8448 = omega (arith, c.requires.within, c.requires.reached.few) in (
      lit< tt,
      (
        lit< tt,
        (
          above,
          (
            below,
            (
              few,
              (
                drop (c.args.place + 1) c.args.net.now.order,
                pair_here c.legs_left_are_open.ensures c.args.net.now c.known.ensures.well_formed c.args.place c.args.label c.args.steps.now.items c.args.walk.now c.requires.place c.requires.label c.requires.reached
                    c.requires.left c.args.first c.requires.within c.requires.met c.requires.before _ item c.deref.result.now (c.deref.ensures.value ∙ shapes) c.in-Some.second c.in-Some.ensures
                    c.walk.inside.shapes.items shapes c.index.result.now c.index-in-Some.result.now c.index.ensures c.index-in-Some.ensures c.deref-in-Some.result.now (c.deref-in-Some.ensures.value ∙ left)
                    c.in_ok-parted-in-Some.parted.summed.items c.in_ok-parted-in-Some.parted.left.items c.in_ok-parted-in-Some.ensures.summed c.in_ok-parted-in-Some.ensures.left,
              ),
            ),
          ),
        ),
      ),
    )

pub close-requires : goal.close-requires
close-requires g c =
    let item : to_z w64 (of_z w64 c.args.label) ≡ c.args.label = search rules in
    let shapes : c.walk.inside.shapes.items ≡ c.args.walk.now.shapes = search rules in
    let left : c.walk.inside.left.items ≡ c.args.walk.now.left = search rules in
    let few : length c.args.steps.now.items < 8448 = omega (arith, c.requires.within, c.requires.reached.few) in (
      lit< tt,
      (
        lit< tt,
        (
          c.requires.within,
          (
            few,
            (
              drop (c.args.place + 1) c.args.net.now.order,
              trace_here c.legs_left_are_open.ensures c.args.net.now c.known.ensures.well_formed c.args.place c.args.label c.args.steps.now.items c.args.walk.now c.requires.place c.requires.label c.requires.reached
                  c.requires.left c.args.first c.requires.within c.requires.met c.requires.before _ item c.deref.result.now (c.deref.ensures.value ∙ shapes) c.in-None.ensures
                  c.walk.inside.shapes.items shapes c.index-in-None.result.now c.index-in-None.ensures c.deref-in-None.result.now (c.deref-in-None.ensures.value ∙ left)
                  c.in_ok-parted-in-None.parted.summed.items c.in_ok-parted-in-None.parted.left.items c.in_ok-parted-in-None.ensures.summed c.in_ok-parted-in-None.ensures.left,
            ),
          ),
        ),
      ),
    )

pub returns-in_ok-parted-in-Some-clause-reached : goal.returns-in_ok-parted-in-Some-clause-reached
returns-in_ok-parted-in-Some-clause-reached g c =
    let item : to_z w64 (of_z w64 c.args.label) ≡ c.args.label = search rules in
    let shapes : c.walk.inside.shapes.items ≡ c.args.walk.now.shapes = search rules in
    let left : c.walk.inside.left.items ≡ c.args.walk.now.left = search rules in
    on_ok c.bring.result
    (λ d. d (drop (c.args.place + 1) c.args.net.now.order)
    (pair_here c.legs_left_are_open.ensures c.args.net.now c.known.ensures.well_formed c.args.place c.args.label c.args.steps.now.items c.args.walk.now c.requires.place c.requires.label c.requires.reached
    c.requires.left c.args.first c.requires.within c.requires.met c.requires.before _ item c.deref.result.now (c.deref.ensures.value ∙ shapes) c.in-Some.second c.in-Some.ensures
    c.walk.inside.shapes.items shapes c.index.result.now c.index-in-Some.result.now c.index.ensures c.index-in-Some.ensures c.deref-in-Some.result.now (c.deref-in-Some.ensures.value ∙ left)
    c.in_ok-parted-in-Some.parted.summed.items c.in_ok-parted-in-Some.parted.left.items c.in_ok-parted-in-Some.ensures.summed c.in_ok-parted-in-Some.ensures.left))
    c.bring.ensures.done

pub returns-in_ok-parted-in-None-clause-reached : goal.returns-in_ok-parted-in-None-clause-reached
returns-in_ok-parted-in-None-clause-reached g c =
    let item : to_z w64 (of_z w64 c.args.label) ≡ c.args.label = search rules in
    let shapes : c.walk.inside.shapes.items ≡ c.args.walk.now.shapes = search rules in
    let left : c.walk.inside.left.items ≡ c.args.walk.now.left = search rules in
    on_ok c.close.result
    (λ d. d (drop (c.args.place + 1) c.args.net.now.order)
    (trace_here c.legs_left_are_open.ensures c.args.net.now c.known.ensures.well_formed c.args.place c.args.label c.args.steps.now.items c.args.walk.now c.requires.place c.requires.label c.requires.reached
    c.requires.left c.args.first c.requires.within c.requires.met c.requires.before _ item c.deref.result.now (c.deref.ensures.value ∙ shapes) c.in-None.ensures
    c.walk.inside.shapes.items shapes c.index-in-None.result.now c.index-in-None.ensures c.deref-in-None.result.now (c.deref-in-None.ensures.value ∙ left)
    c.in_ok-parted-in-None.parted.summed.items c.in_ok-parted-in-None.parted.left.items c.in_ok-parted-in-None.ensures.summed c.in_ok-parted-in-None.ensures.left))
    c.close.ensures.done
