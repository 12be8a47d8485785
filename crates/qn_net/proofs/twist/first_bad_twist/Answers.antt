use Rattle.std.proofs.Common.{◌∙◌, sym}
use Rattle.std.proofs.lemmas.Bool.{false≢true}
use Rattle.qn_net.specs.Refusals.{BadTwistAt}
use Rattle.qn_net.proofs.LineLemmas.{step_none}
use Rattle.qn_net.proofs.twist.first_bad_twist.Goals as goal

pub loop-i-preserved : goal.loop-i-preserved
loop-i-preserved c =
    step_none (BadTwistAt c.args.table.now c.args.twist.now) c.loop-i.i c.loop-i.invariant (λ p. false≢true (sym c.if-is_bad_twist.false ∙ c.is_bad_twist.ensures.1 p))
