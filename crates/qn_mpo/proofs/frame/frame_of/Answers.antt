use Rattle.qn_mpo.proofs.Frames.{empty_more, few_charges, links_more, narrow_more}
use Rattle.qn_mpo.proofs.frame.frame_of.Goals as goal

pub loop-j-preserved : goal.loop-j-preserved
loop-j-preserved g c = record {
  links = links_more c.args.sum.now c.loop-j.j c.loop-j.links.items c.push-in-loop-j.new.self.items c.in_ok-link.link c.loop-j.invariant.links c.in_ok-link.ensures.ok c.in_ok-push-2.ensures.items;
  tensors = empty_more c.args.sum.now c.loop-j.j c.loop-j.tensors.items c.push.new.self.items c.in_ok-empty_tensor.field-0 c.loop-j.invariant.tensors c.in_ok-empty_tensor.ensures.ok c.in_ok-empty_tensor.ensures.empty c.in_ok-push.ensures.items;
  narrow =
      narrow_more c.args.sum.now c.loop-j.j c.loop-j.invariant.narrow
      (few_charges c.args.sum.now c.loop-j.j c.in_ok-link.link c.leg.result.now c.in_ok-link.ensures.ok c.leg.ensures c.known-in-loop-j.ensures.few) c.in_ok-empty_tensor.ensures.narrow;
}
