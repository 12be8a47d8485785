use Rattle.std.proofs.Common.{◌≡◌, ◌+◌, lit<, length, sym, subst, ◌∙◌, arith}
use Rattle.qn_sweep.specs.LeftToRight.{IsLeftToRight}
use Rattle.qn_corr.specs.Sweeping.{AreEnvironments}
use Rattle.qn_corr.proofs.Starting.{few_sites}
use Rattle.qn_corr.proofs.Again.{sweep_new, sweep_there, narrow_again, rest_again, kept_again}
use Rattle.qn_corr.proofs.corr.sweep_again.Goals as goal

pub parts_before-requires : goal.parts_before-requires
parts_before-requires g c =
    let v = c.args.chains.now in
    let e : c.sites-sites.result ≡ length v.bra.tensors = c.sites-sites.ensures in
    let few = few_sites v c.known.ensures.matched c.known.ensures.bra c.known.ensures.op c.known.ensures.ket in
    let k = c.requires.before.2.count in
    let long = c.requires.before.3.bra.count in
    let l = sweep_new c.stays_before_law.ensures c.left_to_right_law.ensures v c.known.ensures.matched c.known.ensures.bra c.known.ensures.op c.known.ensures.ket c.args.net.now c.requires.network c.known-2.ensures.well_formed in
    (lit< tt, (lit< tt, (lit< tt, (omega (arith, e, few), (omega (arith, e, c.requires.place), (omega (arith, e, k, long), subst (IsLeftToRight c.args.net.now) (sym e) l))))))

pub sweep_from-requires-after_bounds : goal.sweep_from-requires-after_bounds
sweep_from-requires-after_bounds g c = λ κs h.
    let v = c.args.chains.now in
    let e : c.sites-sites.result ≡ length v.bra.tensors = c.sites-sites.ensures in
    let few = few_sites v c.known.ensures.matched c.known.ensures.bra c.known.ensures.op c.known.ensures.ket in (
      lit< tt,
      (
        lit< tt,
        (
          omega (arith, e, c.requires.place),
          (
            omega (arith, e, few),
            (
              c.requires.some,
              (
                c.requires.few,
                (
                  c.args.net.now,
                  sweep_there c.stays_before_law.ensures c.left_to_right_law.ensures v c.known.ensures.matched c.known.ensures.bra c.known.ensures.op c.known.ensures.ket c.args.net.now c.requires.network c.known-2.ensures.well_formed c.args.place c.requires.place c.requires.before.0 c.args.plan.now c.args.kept.now c.requires.before.1 c.requires.before.2 c.requires.before.3 c.known_steps.ensures.ready c.known_steps.ensures.place c.sites-sites.result c.in_ok-parts.parts.items e c.in_ok-parts.ensures.first c.in_ok-parts.ensures.later,
                ),
              ),
            ),
          ),
        ),
      ),
    )

pub returns-in-Ok-clause-kept : goal.returns-in-Ok-clause-kept
returns-in-Ok-clause-kept g c = λ old before k h.
    let v = c.args.chains.now in
    let e : c.sites-sites.result ≡ length v.bra.tensors = c.sites-sites.ensures in
    let w = sweep_there c.stays_before_law.ensures c.left_to_right_law.ensures v c.known.ensures.matched c.known.ensures.bra c.known.ensures.op c.known.ensures.ket c.args.net.now c.requires.network c.known-2.ensures.well_formed c.args.place c.requires.place old c.args.plan.now c.args.kept.now before k h c.known_steps.ensures.ready c.known_steps.ensures.place c.sites-sites.result c.in_ok-parts.parts.items e c.in_ok-parts.ensures.first c.in_ok-parts.ensures.later in
    kept_again c.stays_before_law.ensures c.left_to_right_law.ensures v c.known.ensures.matched c.known.ensures.bra c.known.ensures.op c.known.ensures.ket c.args.net.now c.requires.network c.known-2.ensures.well_formed c.args.place c.requires.place old c.args.plan.now c.args.kept.now before k h
    c.in-Ok.swept.kept.items c.in-Ok.swept.value (c.in-Ok.ensures.count ∙ e) (subst (λ n. AreEnvironments c.args.net.now n (c.args.place + 1) c.in-Ok.swept.kept.items) e (c.in-Ok.ensures.kept c.args.net.now w)) (c.in-Ok.ensures.clear c.args.net.now w) (c.in-Ok.ensures.value c.args.net.now w)

pub returns-in-Err-clause-err : goal.returns-in-Err-clause-err
returns-in-Err-clause-err g c =
    c.in-Err.ensures.err c.args.net.now (sweep_there c.stays_before_law.ensures c.left_to_right_law.ensures c.args.chains.now c.known.ensures.matched c.known.ensures.bra c.known.ensures.op c.known.ensures.ket c.args.net.now c.requires.network c.known-2.ensures.well_formed c.args.place c.requires.place c.requires.before.0 c.args.plan.now c.args.kept.now c.requires.before.1 c.requires.before.2 c.requires.before.3 c.known_steps.ensures.ready c.known_steps.ensures.place c.sites-sites.result c.in_ok-parts.parts.items c.sites-sites.ensures c.in_ok-parts.ensures.first c.in_ok-parts.ensures.later)

pub returns-in-Ok-clause-narrow : goal.returns-in-Ok-clause-narrow
returns-in-Ok-clause-narrow g c = narrow_again c.stays_before_law.ensures c.left_to_right_law.ensures c.args.chains.now c.known.ensures.matched c.known.ensures.bra c.known.ensures.op c.known.ensures.ket c.args.net.now c.requires.network c.known-2.ensures.well_formed c.args.place c.requires.place c.requires.before.0 c.args.plan.now c.args.kept.now c.requires.before.1 c.requires.before.2 c.requires.before.3

pub returns-in-Err-clause-narrow : goal.returns-in-Err-clause-narrow
returns-in-Err-clause-narrow g c = narrow_again c.stays_before_law.ensures c.left_to_right_law.ensures c.args.chains.now c.known.ensures.matched c.known.ensures.bra c.known.ensures.op c.known.ensures.ket c.args.net.now c.requires.network c.known-2.ensures.well_formed c.args.place c.requires.place c.requires.before.0 c.args.plan.now c.args.kept.now c.requires.before.1 c.requires.before.2 c.requires.before.3

pub returns-in_err-parts-clause-narrow : goal.returns-in_err-parts-clause-narrow
returns-in_err-parts-clause-narrow g c = narrow_again c.stays_before_law.ensures c.left_to_right_law.ensures c.args.chains.now c.known.ensures.matched c.known.ensures.bra c.known.ensures.op c.known.ensures.ket c.args.net.now c.requires.network c.known-2.ensures.well_formed c.args.place c.requires.place c.requires.before.0 c.args.plan.now c.args.kept.now c.requires.before.1 c.requires.before.2 c.requires.before.3

pub returns-in-Ok-clause-steps : goal.returns-in-Ok-clause-steps
returns-in-Ok-clause-steps g c = λ old before k q h r.
    let e = rest_again c.stays_before_law.ensures c.left_to_right_law.ensures c.args.chains.now c.known.ensures.matched c.known.ensures.bra c.known.ensures.op c.known.ensures.ket c.args.net.now c.requires.network c.known-2.ensures.well_formed c.args.place c.requires.place old c.args.plan.now c.args.kept.now before q h k r in
    omega (arith, e, c.sweep_from.ensures.steps)

pub returns-in-Err-clause-steps : goal.returns-in-Err-clause-steps
returns-in-Err-clause-steps g c = λ old before k q h r.
    let e = rest_again c.stays_before_law.ensures c.left_to_right_law.ensures c.args.chains.now c.known.ensures.matched c.known.ensures.bra c.known.ensures.op c.known.ensures.ket c.args.net.now c.requires.network c.known-2.ensures.well_formed c.args.place c.requires.place old c.args.plan.now c.args.kept.now before q h k r in
    omega (arith, e, c.sweep_from.ensures.steps)
