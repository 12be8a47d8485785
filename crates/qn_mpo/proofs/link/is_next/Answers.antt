use Rattle.std.proofs.Common.{arith, ◌∙◌, sym}
use Rattle.qn_mpo.proofs.Links.{next_last}
use Rattle.qn_mpo.proofs.link.is_next.Goals as goal

pub returns : goal.returns
returns g c = c.is_before.ensures ∙ sym (next_last c.args.out.now c.args.state.now c.index-out-count.result (omega arith) c.index-out-count.is)
