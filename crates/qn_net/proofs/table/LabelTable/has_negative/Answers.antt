use Rattle.std.proofs.Common.{negsuc, ◌<◌, ℕ, IsTrue, ◌↔◌, subst}
use Rattle.qn_net.proofs.LineLemmas.{counted_by}
use Rattle.qn_net.proofs.table.LabelTable.has_negative.Goals as goal

pub returns : goal.returns
returns c =
    subst (λ (k : ℕ). IsTrue c.is_any.result ↔ (0 < k)) (counted_by (negsuc c.args.n) c.args.self.now c.negative.result c.negative-2.result c.negative.ensures c.negative-2.ensures) c.is_any.ensures
