use Rattle.std.proofs.Common.{◌∙◌, sym, arith}
use Rattle.std.proofs.lemmas.Bool.{false≢true}
use Rattle.qn_net.specs.Refusals.{HasEqualArrows}
use Rattle.qn_net.proofs.LineLemmas.{arrows_off, none_zero, none_above, none_at_all, step_none, first_none}
use Rattle.qn_net.proofs.lines.first_equal_arrows.Goals as goal

pub loop-n-init : goal.loop-n-init
loop-n-init c = first_none (HasEqualArrows c.args.table.now) (arrows_off c.args.table.now 0 (none_zero c.args.table.now c.known.ensures))

pub loop-n-preserved : goal.loop-n-preserved
loop-n-preserved c =
    step_none (HasEqualArrows c.args.table.now) c.loop-n.n c.loop-n.invariant (λ p. false≢true (sym c.if-has_equal_arrows.false ∙ c.has_equal_arrows.ensures.1 p))

pub returns : goal.returns
returns c =
    none_at_all (HasEqualArrows c.args.table.now) (arrows_off c.args.table.now 0 (none_zero c.args.table.now c.known.ensures))
    (λ n l. arrows_off c.args.table.now n (none_above c.args.table.now c.known.ensures n l))
    (λ n l. c.loop-n.invariant n (omega (arith, l)))
