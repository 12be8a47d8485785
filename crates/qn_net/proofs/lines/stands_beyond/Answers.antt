use Rattle.std.proofs.Common.{◌∙◌, sym, arith}
use Rattle.std.proofs.lemmas.Bool.{false≢true}
use Rattle.qn_net.proofs.LineLemmas.{step_beyond, none_beyond}
use Rattle.qn_net.proofs.lines.stands_beyond.Goals as goal

pub loop-k-preserved : goal.loop-k-preserved
loop-k-preserved c = step_beyond c.args.table.now c.args.n c.loop-k.k c.loop-k.invariant (λ p. false≢true (sym c.if-has_negative.false ∙ c.has_negative.ensures.1 p))

pub returns : goal.returns
returns c = (
  (λ t. absurd (false≢true t)),
  (λ g. absurd (none_beyond c.args.table.now c.known.ensures c.args.n (λ j l m. c.loop-k.invariant j l (omega (arith, m))) g.0 g.1 g.2)),
)
