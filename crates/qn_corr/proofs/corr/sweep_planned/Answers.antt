use Rattle.std.proofs.Common.{◌≡◌, lit<, length, subst, arith}
use Rattle.qn_corr.specs.Sweeping.{AreEnvironments}
use Rattle.qn_corr.proofs.Starting.{sweep_begin, some_sites, few_sites}
use Rattle.qn_corr.proofs.Again.{whole_is}
use Rattle.qn_corr.proofs.corr.sweep_planned.Goals as goal

pub sweep_from-requires-after_bounds : goal.sweep_from-requires-after_bounds
sweep_from-requires-after_bounds g c = λ κs h.
    let v = c.args.chains.now in
    let e : c.sites-sites.result ≡ length v.bra.tensors = c.sites-sites.ensures in
    let some = some_sites v c.known.ensures.matched c.known.ensures.bra c.known.ensures.op c.known.ensures.ket in
    let few = few_sites v c.known.ensures.matched c.known.ensures.bra c.known.ensures.op c.known.ensures.ket in (
      lit< tt,
      (
        lit< tt,
        (
          omega (arith, e, some),
          (
            omega (arith, e, few),
            (
              c.requires.some,
              (
                c.requires.few,
                (
                  c.args.net.now,
                  sweep_begin v c.known.ensures.matched c.known.ensures.bra c.known.ensures.op c.known.ensures.ket c.left_to_right_law.ensures c.args.net.now c.requires.network c.known-2.ensures.well_formed c.args.plan.now c.in_ok-parts.parts.items c.requires.planned c.known_steps.ensures.ready c.requires.narrow c.known_steps.ensures.place c.in_ok-parts.ensures c.sites-sites.result e,
                ),
              ),
            ),
          ),
        ),
      ),
    )

pub returns-in-Ok-clause-kept : goal.returns-in-Ok-clause-kept
returns-in-Ok-clause-kept g c =
    let v = c.args.chains.now in
    let e : c.sites-sites.result ≡ length v.bra.tensors = c.sites-sites.ensures in
    let w = sweep_begin v c.known.ensures.matched c.known.ensures.bra c.known.ensures.op c.known.ensures.ket c.left_to_right_law.ensures c.args.net.now c.requires.network c.known-2.ensures.well_formed c.args.plan.now c.in_ok-parts.parts.items c.requires.planned c.known_steps.ensures.ready c.requires.narrow c.known_steps.ensures.place c.in_ok-parts.ensures c.sites-sites.result e in
    record {
      matched = c.known.ensures.matched;
      net = c.args.net.now;
      network = c.requires.network;
      formed = c.known-2.ensures.well_formed;
      plan_is = c.requires.planned;
      narrow = c.requires.narrow;
      clear = c.in-Ok.ensures.clear c.args.net.now w;
      count = omega (arith, e, c.in-Ok.ensures.count);
      environments = subst (λ n. AreEnvironments c.args.net.now n 1 c.in-Ok.swept.kept.items) e (c.in-Ok.ensures.kept c.args.net.now w);
      result_is = c.in-Ok.ensures.value c.args.net.now w;
    }

pub returns-in-Ok-clause-clear : goal.returns-in-Ok-clause-clear
returns-in-Ok-clause-clear g c =
    c.in-Ok.ensures.clear c.args.net.now (sweep_begin c.args.chains.now c.known.ensures.matched c.known.ensures.bra c.known.ensures.op c.known.ensures.ket c.left_to_right_law.ensures c.args.net.now c.requires.network c.known-2.ensures.well_formed c.args.plan.now c.in_ok-parts.parts.items c.requires.planned c.known_steps.ensures.ready c.requires.narrow c.known_steps.ensures.place c.in_ok-parts.ensures c.sites-sites.result c.sites-sites.ensures)

pub returns-in-Err-clause-err : goal.returns-in-Err-clause-err
returns-in-Err-clause-err g c =
    c.in-Err.ensures.err c.args.net.now (sweep_begin c.args.chains.now c.known.ensures.matched c.known.ensures.bra c.known.ensures.op c.known.ensures.ket c.left_to_right_law.ensures c.args.net.now c.requires.network c.known-2.ensures.well_formed c.args.plan.now c.in_ok-parts.parts.items c.requires.planned c.known_steps.ensures.ready c.requires.narrow c.known_steps.ensures.place c.in_ok-parts.ensures c.sites-sites.result c.sites-sites.ensures)

pub returns-in-Ok-clause-steps : goal.returns-in-Ok-clause-steps
returns-in-Ok-clause-steps g c = let e = whole_is c.args.net.now c.args.plan.now c.requires.planned in omega (arith, e, c.sweep_from.ensures.steps)

pub returns-in-Err-clause-steps : goal.returns-in-Err-clause-steps
returns-in-Err-clause-steps g c = let e = whole_is c.args.net.now c.args.plan.now c.requires.planned in omega (arith, e, c.sweep_from.ensures.steps)
