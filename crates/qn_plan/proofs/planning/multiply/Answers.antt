use Rattle.std.proofs.Common.{rules, ◌≡◌, ◌<◌, ℤ, List, [], lit<, sym, subst, length, arith}
use Rattle.qn_plan.specs.Taking.{IsPairNext}
use Rattle.qn_plan.proofs.NextSteps.{product_next}
use Rattle.qn_plan.proofs.Bringing.{on_ok}
use Rattle.qn_plan.proofs.planning.multiply.Goals as goal

pub bring-requires : goal.bring-requires
bring-requires g c =
    let few : length c.args.steps.now.items < 8448 = omega (arith, c.requires.some, c.requires.reached.few) in
    let left : c.in_ok-from_slice.field-0.items ≡ c.args.walk.now.left = search rules in (
      lit< tt,
      (
        lit< tt,
        (
          omega arith,
          (
            c.requires.some,
            (
              few,
              (
                [],
                subst (λ (ls : List ℤ). IsPairNext c.args.net.now [] c.args.steps.now.items c.args.walk.now 0 1 c.new.result.items ls) (sym left)
                    (subst (λ (ls : List ℤ). IsPairNext c.args.net.now [] c.args.steps.now.items c.args.walk.now 0 1 ls c.args.walk.now.left) (sym c.new.ensures.items)
                    (product_next c.legs_left_are_open.ensures c.args.net.now c.known.ensures.well_formed c.args.steps.now.items c.args.walk.now c.requires.reached c.requires.some)),
              ),
            ),
          ),
        ),
      ),
    )

pub returns-clause-reached : goal.returns-clause-reached
returns-clause-reached g c =
    let left : c.in_ok-from_slice.field-0.items ≡ c.args.walk.now.left = search rules in
    on_ok c.bring.result
    (λ d. d [] (subst (λ (ls : List ℤ). IsPairNext c.args.net.now [] c.args.steps.now.items c.args.walk.now 0 1 c.new.result.items ls) (sym left)
    (subst (λ (ls : List ℤ). IsPairNext c.args.net.now [] c.args.steps.now.items c.args.walk.now 0 1 ls c.args.walk.now.left) (sym c.new.ensures.items)
    (product_next c.legs_left_are_open.ensures c.args.net.now c.known.ensures.well_formed c.args.steps.now.items c.args.walk.now c.requires.reached c.requires.some))))
    c.bring.ensures.done
