use Rattle.std.proofs.Common.{negsuc, ◌<◌, ℕ, IsTrue, ◌↔◌, subst}
use Rattle.qn_net.proofs.LineLemmas.{counted_by}
use Rattle.qn_net.proofs.lines.is_repeated.Goals as goal

pub returns : goal.returns
returns c =
    subst (λ (k : ℕ). IsTrue c.is_more_than_one.result ↔ (1 < k))
    (counted_by (negsuc c.args.n) c.args.table.now c.negative.result c.negative-2.result c.negative.ensures c.negative-2.ensures) c.is_more_than_one.ensures
