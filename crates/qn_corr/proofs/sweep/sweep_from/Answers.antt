use Rattle.std.proofs.Common.{◌≡◌, ◌≤◌, ◌+◌, ◌-◌, ◌∷◌, [], List, lit<, length, refl, sym, ◌∙◌, ap, subst, arith}
use Rattle.std.proofs.lemmas.List.{length-append}
use Rattle.qn_engine.specs.Parts.{PartValue}
use Rattle.qn_engine.proofs.Evaluating.{costs, on_done, clear_done}
use Rattle.qn_sweep.specs.LeftToRight.{steps_before}
use Rattle.qn_corr.specs.Sweeping.{AreEnvironments}
use Rattle.qn_corr.proofs.Environments.{before_less, before_within, at_end, plan_long, environments-append}
use Rattle.qn_corr.proofs.Costs.{costs_add, costs_total}
use Rattle.qn_corr.proofs.Finals.{no_values, entry_is}
use Rattle.qn_corr.proofs.sweep.sweep_from.Goals as goal

pub returns-in-Err-clause-steps : goal.returns-in-Err-clause-steps
returns-in-Err-clause-steps g c =
    let low = before_less c.args.first c.loop-site.site (omega (arith, c.loop-site.invariant.1)) in
    let up = before_less c.loop-site.site (c.loop-site.site + 1) (omega arith) in
    let sum = costs_add c.args.plan.now (steps_before c.args.first) (steps_before c.loop-site.site) (steps_before (c.loop-site.site + 1)) low up in
    let most = costs_total c.args.plan.now (steps_before c.args.first) (steps_before (c.loop-site.site + 1) - steps_before c.args.first) in
    omega (arith, sum, most, c.loop-site.invariant.2, c.take_site.ensures.steps)

pub loop-site-preserved : goal.loop-site-preserved
loop-site-preserved g c =
    let low = before_less c.args.first c.loop-site.site (omega (arith, c.loop-site.invariant.1)) in
    let up = before_less c.loop-site.site (c.loop-site.site + 1) (omega arith) in
    let sum = costs_add c.args.plan.now (steps_before c.args.first) (steps_before c.loop-site.site) (steps_before (c.loop-site.site + 1)) low up in
    let some = c.in-Ok.ensures.kept c.requires.way.0 (c.loop-site.invariant.0 c.requires.way.0 c.requires.way.1).0 in
    let many = ap (λ (ps : List PartValue). length ps) some.1 ∙ length-append c.loop-site.kept.items (some.0 ∷ []) in (
      λ net w.
          let k = c.loop-site.invariant.0 net w in
          let p = c.in-Ok.ensures.kept net k.0 in (
            c.in-Ok.ensures.way net k.0,
            subst (AreEnvironments net c.args.sites (c.args.first + 1)) (sym p.1)
                (environments-append net c.args.sites (c.args.first + 1) c.loop-site.kept.items p.0 (c.loop-site.site + 1) k.1 (omega (arith, c.loop-site.invariant.1)) p.2),
          ),
      omega (arith, many, c.loop-site.invariant.1),
      omega (arith, sum, c.loop-site.invariant.2, c.take_site.ensures.steps),
    )

pub carry-requires-after_bounds : goal.carry-requires-after_bounds
carry-requires-after_bounds g c = λ κs h.
    let here : c.args.sites - 1 ≡ c.loop-site.site = omega (arith, c.requires.within) in
    let e : c.steps_before.result ≡ steps_before c.loop-site.site = c.steps_before.ensures ∙ ap steps_before here in
    let k = (c.loop-site.invariant.0 c.requires.way.0 c.requires.way.1).0 in
    let long = plan_long c.requires.way.0 c.args.plan.now c.args.sites c.loop-site.site c.loop-site.parts.items k in
    let within = before_within c.loop-site.site c.args.sites (omega (arith, here, c.requires.within)) in (
      lit< tt,
      (
        omega (arith, e, long, within),
        (
          omega arith,
          (
            omega (arith, long, c.requires.small),
            (
              c.requires.some,
              (
                c.requires.few,
                (c.requires.way.0, at_end c.requires.way.0 c.args.plan.now c.args.sites c.loop-site.site c.loop-site.parts.items k c.steps_before.result e),
              ),
            ),
          ),
        ),
      ),
    )

pub returns-in-Err-carry-clause-err : goal.returns-in-Err-carry-clause-err
returns-in-Err-carry-clause-err g c = λ net w.
    let here : c.args.sites - 1 ≡ c.loop-site.site = omega (arith, c.requires.within) in
    let e : c.steps_before.result ≡ steps_before c.loop-site.site = c.steps_before.ensures ∙ ap steps_before here in
    c.in-Err-carry.ensures.err net (at_end net c.args.plan.now c.args.sites c.loop-site.site c.loop-site.parts.items (c.loop-site.invariant.0 net w).0 c.steps_before.result e)

pub returns-in-Err-carry-clause-steps : goal.returns-in-Err-carry-clause-steps
returns-in-Err-carry-clause-steps g c =
    let here : c.args.sites - 1 ≡ c.loop-site.site = omega (arith, c.requires.within) in
    let e : steps_before c.loop-site.site ≡ c.steps_before.result = sym (c.steps_before.ensures ∙ ap steps_before here) in
    let low = before_less c.args.first c.loop-site.site (omega (arith, c.loop-site.invariant.1)) in
    let k = (c.loop-site.invariant.0 c.requires.way.0 c.requires.way.1).0 in
    let long = plan_long c.requires.way.0 c.args.plan.now c.args.sites c.loop-site.site c.loop-site.parts.items k in
    let within = before_within c.loop-site.site c.args.sites (omega (arith, here, c.requires.within)) in
    let before : c.loop-site.steps ≤ c.args.steps.now + costs c.args.plan.now (steps_before c.args.first) (c.steps_before.result - steps_before c.args.first) =
    subst (λ n. c.loop-site.steps ≤ c.args.steps.now + costs c.args.plan.now (steps_before c.args.first) (n - steps_before c.args.first)) e c.loop-site.invariant.2 in
    let sum = costs_add c.args.plan.now (steps_before c.args.first) c.steps_before.result (length c.args.plan.now) (omega (arith, low, e)) (omega (arith, e, long, within)) in
    let most = costs_total c.args.plan.now (steps_before c.args.first) (length c.args.plan.now - steps_before c.args.first) in
    omega (arith, sum, most, before, c.carry.ensures.steps)

pub returns-in_err-scalar-clause-steps : goal.returns-in_err-scalar-clause-steps
returns-in_err-scalar-clause-steps g c =
    let here : c.args.sites - 1 ≡ c.loop-site.site = omega (arith, c.requires.within) in
    let e : steps_before c.loop-site.site ≡ c.steps_before.result = sym (c.steps_before.ensures ∙ ap steps_before here) in
    let low = before_less c.args.first c.loop-site.site (omega (arith, c.loop-site.invariant.1)) in
    let k = (c.loop-site.invariant.0 c.requires.way.0 c.requires.way.1).0 in
    let long = plan_long c.requires.way.0 c.args.plan.now c.args.sites c.loop-site.site c.loop-site.parts.items k in
    let within = before_within c.loop-site.site c.args.sites (omega (arith, here, c.requires.within)) in
    let before : c.loop-site.steps ≤ c.args.steps.now + costs c.args.plan.now (steps_before c.args.first) (c.steps_before.result - steps_before c.args.first) =
    subst (λ n. c.loop-site.steps ≤ c.args.steps.now + costs c.args.plan.now (steps_before c.args.first) (n - steps_before c.args.first)) e c.loop-site.invariant.2 in
    let sum = costs_add c.args.plan.now (steps_before c.args.first) c.steps_before.result (length c.args.plan.now) (omega (arith, low, e)) (omega (arith, e, long, within)) in
    let most = costs_total c.args.plan.now (steps_before c.args.first) (length c.args.plan.now - steps_before c.args.first) in
    omega (arith, sum, most, before, c.carry.ensures.steps)

pub returns-clause-steps : goal.returns-clause-steps
returns-clause-steps g c =
    let here : c.args.sites - 1 ≡ c.loop-site.site = omega (arith, c.requires.within) in
    let e : steps_before c.loop-site.site ≡ c.steps_before.result = sym (c.steps_before.ensures ∙ ap steps_before here) in
    let low = before_less c.args.first c.loop-site.site (omega (arith, c.loop-site.invariant.1)) in
    let k = (c.loop-site.invariant.0 c.requires.way.0 c.requires.way.1).0 in
    let long = plan_long c.requires.way.0 c.args.plan.now c.args.sites c.loop-site.site c.loop-site.parts.items k in
    let within = before_within c.loop-site.site c.args.sites (omega (arith, here, c.requires.within)) in
    let before : c.loop-site.steps ≤ c.args.steps.now + costs c.args.plan.now (steps_before c.args.first) (c.steps_before.result - steps_before c.args.first) =
    subst (λ n. c.loop-site.steps ≤ c.args.steps.now + costs c.args.plan.now (steps_before c.args.first) (n - steps_before c.args.first)) e c.loop-site.invariant.2 in
    let sum = costs_add c.args.plan.now (steps_before c.args.first) c.steps_before.result (length c.args.plan.now) (omega (arith, low, e)) (omega (arith, e, long, within)) in
    let most = costs_total c.args.plan.now (steps_before c.args.first) (length c.args.plan.now - steps_before c.args.first) in
    omega (arith, sum, most, before, c.carry.ensures.steps)

pub finished-requires-after_bounds : goal.finished-requires-after_bounds
finished-requires-after_bounds g c = λ κs h.
    let here : c.args.sites - 1 ≡ c.loop-site.site = omega (arith, c.requires.within) in
    let e : c.steps_before.result ≡ steps_before c.loop-site.site = c.steps_before.ensures ∙ ap steps_before here in
    let k = (c.loop-site.invariant.0 c.requires.way.0 c.requires.way.1).0 in (
      lit< tt,
      (
        lit< tt,
        (
          c.requires.way.0,
          on_done c.requires.way.0 c.args.plan.now [] (length c.args.plan.now) c.carry.new.parts.items refl c.requires.way.1.formed
              (c.in-Ok-carry.ensures.carried c.requires.way.0 (at_end c.requires.way.0 c.args.plan.now c.args.sites c.loop-site.site c.loop-site.parts.items k c.steps_before.result e)),
        ),
      ),
    )

pub entry-value-requires : goal.entry-value-requires
entry-value-requires g c =
    let here : c.args.sites - 1 ≡ c.loop-site.site = omega (arith, c.requires.within) in
    let e : c.steps_before.result ≡ steps_before c.loop-site.site = c.steps_before.ensures ∙ ap steps_before here in
    let k = (c.loop-site.invariant.0 c.requires.way.0 c.requires.way.1).0 in (
      lit< tt,
      no_values c.requires.way.0 c.args.sites c.in_ok-scalar.scalar c.requires.way.1.sweep
          (c.in_ok-scalar.ensures.value c.requires.way.0 (on_done c.requires.way.0 c.args.plan.now [] (length c.args.plan.now) c.carry.new.parts.items refl c.requires.way.1.formed
          (c.in-Ok-carry.ensures.carried c.requires.way.0 (at_end c.requires.way.0 c.args.plan.now c.args.sites c.loop-site.site c.loop-site.parts.items k c.steps_before.result e)))),
    )

pub returns-clause-value : goal.returns-clause-value
returns-clause-value g c = λ net w.
    let here : c.args.sites - 1 ≡ c.loop-site.site = omega (arith, c.requires.within) in
    let e : c.steps_before.result ≡ steps_before c.loop-site.site = c.steps_before.ensures ∙ ap steps_before here in
    let k = (c.loop-site.invariant.0 net w).0 in
    c.entry-value.ensures ∙ entry_is net c.args.sites c.in_ok-scalar.scalar w.sweep
    (c.in_ok-scalar.ensures.value net (on_done net c.args.plan.now [] (length c.args.plan.now) c.carry.new.parts.items refl w.formed
    (c.in-Ok-carry.ensures.carried net (at_end net c.args.plan.now c.args.sites c.loop-site.site c.loop-site.parts.items k c.steps_before.result e))))

pub returns-clause-clear : goal.returns-clause-clear
returns-clause-clear g c = λ net w.
    let here : c.args.sites - 1 ≡ c.loop-site.site = omega (arith, c.requires.within) in
    let e : c.steps_before.result ≡ steps_before c.loop-site.site = c.steps_before.ensures ∙ ap steps_before here in
    let k = (c.loop-site.invariant.0 net w).0 in
    clear_done net c.args.plan.now [] (length c.args.plan.now) c.carry.new.parts.items refl
    (c.in-Ok-carry.ensures.carried net (at_end net c.args.plan.now c.args.sites c.loop-site.site c.loop-site.parts.items k c.steps_before.result e))
