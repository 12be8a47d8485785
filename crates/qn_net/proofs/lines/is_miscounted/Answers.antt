use Rattle.std.proofs.Common.{pos, ◌≢◌, ℕ, IsTrue, ◌↔◌, subst}
use Rattle.qn_net.proofs.LineLemmas.{counted_by}
use Rattle.qn_net.proofs.lines.is_miscounted.Goals as goal

pub returns : goal.returns
returns c =
    subst (λ (k : ℕ). IsTrue c.is_other_than_two.result ↔ ((k ≢ 0) × (k ≢ 2)))
    (counted_by (pos c.args.n) c.args.table.now c.positive.result c.positive-2.result c.positive.ensures c.positive-2.ensures) c.is_other_than_two.ensures
