use Rattle.std.proofs.Common.{◌≡◌, ◌∙◌, arith}
use Rattle.qn_net.proofs.LineLemmas.{positives_start, positives_all}
use Rattle.qn_net.proofs.lines.ascending.Goals as goal

pub loop-n-init : goal.loop-n-init
loop-n-init c = c.new-order.ensures.items ∙ positives_start c.args.table.now c.known.ensures

pub returns : goal.returns
returns c = let e : c.loop-n.n ≡ 1025 = omega arith in positives_all c.args.table.now c.loop-n.n c.loop-n.order.items e c.loop-n.invariant
