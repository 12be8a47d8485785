use Rattle.std.proofs.Common.{◌≡◌, ◌<◌, ◌+◌, ◌-◌, lit<, length, sym, ◌∙◌, subst, arith}
use Rattle.qn_net.specs.Groups.Role.{tensor}
use Rattle.qn_net.specs.Members.{no_member, role_of}
use Rattle.qn_engine.specs.Parts.{PartValue}
use Rattle.qn_sweep.specs.LeftToRight.{steps_before}
use Rattle.qn_corr.specs.Sweeping.{IsEnvironment}
use Rattle.qn_corr.proofs.Environments.{before_less, before_within, at_end, plan_long, sweep_next, environment_at}
use Rattle.qn_corr.proofs.sweep.take_site.Goals as goal

pub carry-requires-after_bounds : goal.carry-requires-after_bounds
carry-requires-after_bounds g c = λ κs h.
    let e : c.steps_before.result ≡ steps_before c.args.site = c.steps_before.ensures in
    let f : c.steps_before-2.result ≡ steps_before (c.args.site + 1) = c.steps_before-2.ensures in
    let less = before_less c.args.site (c.args.site + 1) (omega arith) in
    let within = before_within (c.args.site + 1) c.args.sites c.requires.within in
    let long = plan_long c.requires.way.0 c.args.plan.now c.args.sites c.args.site c.args.parts.now.items c.requires.way.1 in (
      lit< tt,
      (
        omega (arith, e, f, less),
        (
          omega (arith, f, within, long),
          (
            omega (arith, long, c.requires.small),
            (
              c.requires.some,
              (
                c.requires.few,
                (c.requires.way.0, at_end c.requires.way.0 c.args.plan.now c.args.sites c.args.site c.args.parts.now.items c.requires.way.1 c.steps_before.result e),
              ),
            ),
          ),
        ),
      ),
    )

pub index-requires : goal.index-requires
index-requires g c =
    let w = c.requires.way.1 in
    let v = sweep_next c.requires.way.0 c.args.plan.now c.args.sites c.args.site c.args.parts.now.items w (c.args.site + 1) c.steps_before-2.result c.steps_before-2.ensures c.carry.new.parts.items
    (c.in-Ok.ensures.carried c.requires.way.0 (at_end c.requires.way.0 c.args.plan.now c.args.sites c.args.site c.args.parts.now.items w c.steps_before.result c.steps_before.ensures)) in
    let d : PartValue = record { number = 0; member = no_member.member; labels = no_member.labels } in
    let k : c.args.sites - (c.args.site + 1) < length c.carry.new.parts.items = (environment_at c.requires.way.0 c.args.plan.now c.args.sites (c.args.site + 1) c.carry.new.parts.items d (omega arith) (omega (arith, c.requires.within)) v).within in
    omega (arith, k)

pub keep-requires : goal.keep-requires
keep-requires g c =
    let w = c.requires.way.1 in
    let v = sweep_next c.requires.way.0 c.args.plan.now c.args.sites c.args.site c.args.parts.now.items w (c.args.site + 1) c.steps_before-2.result c.steps_before-2.ensures c.carry.new.parts.items
    (c.in-Ok.ensures.carried c.requires.way.0 (at_end c.requires.way.0 c.args.plan.now c.args.sites c.args.site c.args.parts.now.items w c.steps_before.result c.steps_before.ensures)) in (
      lit< tt,
      (
        lit< tt,
        subst (λ (p : PartValue). role_of p.member ≡ tensor) (sym c.index.ensures)
            (environment_at c.requires.way.0 c.args.plan.now c.args.sites (c.args.site + 1) c.carry.new.parts.items c.index.result.now (omega arith) (omega (arith, c.requires.within)) v).plain,
      ),
    )

pub returns-clause-kept : goal.returns-clause-kept
returns-clause-kept g c = λ net w.
    let v = sweep_next net c.args.plan.now c.args.sites c.args.site c.args.parts.now.items w (c.args.site + 1) c.steps_before-2.result c.steps_before-2.ensures c.carry.new.parts.items
    (c.in-Ok.ensures.carried net (at_end net c.args.plan.now c.args.sites c.args.site c.args.parts.now.items w c.steps_before.result c.steps_before.ensures)) in (
      c.in_ok-keep.field-0,
      c.in_ok-push.ensures.items,
      subst (IsEnvironment net c.args.sites (c.args.site + 1)) (sym (c.in_ok-keep.ensures ∙ c.index.ensures))
          (environment_at net c.args.plan.now c.args.sites (c.args.site + 1) c.carry.new.parts.items c.index.result.now (omega arith) (omega (arith, c.requires.within)) v).environment,
    )
