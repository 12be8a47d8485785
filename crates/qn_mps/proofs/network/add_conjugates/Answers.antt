use Rattle.std.proofs.Common.{◌≤◌, ◌-◌, List, length, get_or, ◌∙◌, ap, arith}
use Rattle.qn_block.specs.Blocked.{BlockedValue}
use Rattle.qn_mps.specs.Labels.{labels_at}
use Rattle.qn_mps.proofs.Conjugates.{conjugates_more}
use Rattle.qn_mps.proofs.network.add_conjugates.Goals as goal

pub loop-site-preserved : goal.loop-site-preserved
loop-site-preserved g c =
    let w : c.loop-site.site ≤ length c.args.chain.now.tensors = c.loop-site.invariant.within in
    record {
      within = omega (arith, w);
      made =
          conjugates_more (labels_at c.args.own.now c.args.link (length c.args.chain.now.tensors)) c.args.chain.now.tensors c.loop-site.site (c.loop-site.site - 1)
          c.args.members.now.items c.loop-site.members.items _ c.index-tensors-site.result c.in_ok-labels.labels.items c.in_ok-conjugate_member.field-0
          (omega arith) (omega (arith, w))
          (c.index-tensors-site.is ∙ ap (λ (ts : List BlockedValue). get_or ts (c.loop-site.site - 1) c.index-tensors-site.result) c.tensors-tensors.ensures)
          (c.in_ok-labels.ensures ∙ ap (λ (ts : List BlockedValue). labels_at c.args.own.now c.args.link (length ts) (c.loop-site.site - 1)) c.tensors-tensors.ensures)
          c.in_ok-conjugate_member.ensures c.in_ok-push.ensures.items c.loop-site.invariant.made;
    }
