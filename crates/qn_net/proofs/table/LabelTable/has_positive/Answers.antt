use Rattle.std.proofs.Common.{pos, ◌<◌, ℕ, IsTrue, ◌↔◌, subst}
use Rattle.qn_net.proofs.LineLemmas.{counted_by}
use Rattle.qn_net.proofs.table.LabelTable.has_positive.Goals as goal

pub returns : goal.returns
returns c =
    subst (λ (k : ℕ). IsTrue c.is_any.result ↔ (0 < k)) (counted_by (pos c.args.n) c.args.self.now c.positive.result c.positive-2.result c.positive.ensures c.positive-2.ensures) c.is_any.ensures
