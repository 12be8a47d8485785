use Rattle.std.proofs.Common.{arith, ap, length, ◌+◌}
use Rattle.qn_mpo.proofs.Costs.{steps_more, within_made}
use Rattle.qn_mpo.proofs.Sites.{built_all, built_more, clear_all}
use Rattle.qn_mpo.proofs.site.tensors_of.Goals as goal

pub returns-in_err-tensor-clause-ticks : goal.returns-in_err-tensor-clause-ticks
returns-in_err-tensor-clause-ticks g c =
    within_made c.args.sum.now (c.loop-site.site + 1) c.args.steps.now c.site_tensor.new.steps
    (steps_more c.args.sum.now c.loop-site.site c.args.steps.now c.loop-site.steps c.site_tensor.new.steps c.loop-site.invariant.ticks c.in_err-tensor.ensures.ticks)

pub returns-in_err-push-clause-ticks : goal.returns-in_err-push-clause-ticks
returns-in_err-push-clause-ticks g c =
    within_made c.args.sum.now (c.loop-site.site + 1) c.args.steps.now c.site_tensor.new.steps
    (steps_more c.args.sum.now c.loop-site.site c.args.steps.now c.loop-site.steps c.site_tensor.new.steps c.loop-site.invariant.ticks c.in_ok-tensor.ensures.ticks)

pub loop-site-preserved : goal.loop-site-preserved
loop-site-preserved g c = record {
  built = built_more c.args.sum.now c.loop-site.site c.loop-site.tensors.items c.push.new.self.items c.in_ok-tensor.tensor c.loop-site.invariant.built c.in_ok-tensor.ensures.ok c.in_ok-tensor.ensures.clear c.in_ok-push.ensures.items;
  ticks = steps_more c.args.sum.now c.loop-site.site c.args.steps.now c.loop-site.steps c.site_tensor.new.steps c.loop-site.invariant.ticks c.in_ok-tensor.ensures.ticks;
}

pub returns-clause-ok : goal.returns-clause-ok
returns-clause-ok g c =
    let count = ap length c.sites-count.ensures in
    let few = c.known.ensures.sites.few in
    built_all c.args.sum.now c.loop-site.site c.loop-site.tensors.items (omega (arith, count, few, c.loop-site-test.false)) (omega (arith, count, few, c.loop-site.auto.site-end)) c.loop-site.invariant.built

pub returns-clause-clear : goal.returns-clause-clear
returns-clause-clear g c =
    let count = ap length c.sites-count.ensures in
    let few = c.known.ensures.sites.few in
    clear_all c.args.sum.now c.loop-site.site c.loop-site.tensors.items (omega (arith, count, few, c.loop-site-test.false)) c.loop-site.invariant.built

pub returns-clause-ticks : goal.returns-clause-ticks
returns-clause-ticks g c = within_made c.args.sum.now c.loop-site.site c.args.steps.now c.loop-site.steps c.loop-site.invariant.ticks
