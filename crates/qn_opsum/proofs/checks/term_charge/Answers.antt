use Rattle.std.proofs.Common.{lit<, ◌∙◌, arith}
use Rattle.qn_opsum.proofs.Charges.{added_all, added_first, added_more, sum_fits}
use Rattle.qn_opsum.proofs.Lookups.{good_at, named_canonical}
use Rattle.qn_opsum.proofs.checks.term_charge.Goals as goal

pub loop-i-init : goal.loop-i-init
loop-i-init g c = added_first c.args.group.now c.args.sites.now c.args.factors.now c.zero-sum.result c.known.ensures.group c.zero-sum.ensures.value

pub operator-op-requires : goal.operator-op-requires
operator-op-requires g c =
    let good = good_at c.args.sites.now c.args.factors.now c.loop-i.i c.index-factors-i.result c.requires.good c.loop-i-test.true c.index-factors-i.is in
    (lit< tt, (lit< tt, (c.requires.sites.sites, (good.0, (good.1, good.2)))))

pub add-sum-requires : goal.add-sum-requires
add-sum-requires g c =
    let good = good_at c.args.sites.now c.args.factors.now c.loop-i.i c.index-factors-i.result c.requires.good c.loop-i-test.true c.index-factors-i.is in
    let charge = named_canonical c.args.group.now c.args.sites.now c.index-factors-i.result c.requires.sites good.0 good.1 c.operator-op.ensures.place in (
      lit< tt,
      (
        lit< tt,
        (
          c.loop-i.invariant.canonical,
          (
            rw (c.charge.ensures, c.operator-op.ensures.value) charge.0,
            rw (c.charge.ensures, c.operator-op.ensures.value) (sum_fits _ c.loop-i.i _ _ (omega (arith, c.requires.good.few, c.loop-i-test.true)) c.loop-i.invariant.within charge.1),
          ),
        ),
      ),
    )

pub loop-i-preserved : goal.loop-i-preserved
loop-i-preserved g c =
    let good = good_at c.args.sites.now c.args.factors.now c.loop-i.i c.index-factors-i.result c.requires.good c.loop-i-test.true c.index-factors-i.is in
    let charge = named_canonical c.args.group.now c.args.sites.now c.index-factors-i.result c.requires.sites good.0 good.1 c.operator-op.ensures.place in
    added_more c.args.group.now c.args.sites.now c.args.factors.now c.loop-i.i c.index-factors-i.result c.operator-op.result.now c.loop-i.sum c.add-sum.result c.known.ensures.group c.loop-i-test.true c.index-factors-i.is
    c.operator-op.ensures.value (rw c.operator-op.ensures.value charge.1) c.loop-i.invariant (rw c.charge.ensures at c.add-sum.ensures.value)

pub returns : goal.returns
returns g c =
    let all = added_all c.args.group.now c.args.sites.now c.args.factors.now c.loop-i.i c.loop-i.sum c.known.ensures.group c.loop-i-test.false (omega (arith, c.requires.good.few, c.loop-i.auto.i-end)) c.loop-i.invariant in
    record { value = all.0; flux = all.1 }
