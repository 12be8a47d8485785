use Rattle.std.proofs.Common.{◌∙◌, sym, arith}
use Rattle.std.proofs.lemmas.Bool.{false≢true}
use Rattle.qn_net.specs.Refusals.{IsMiscounted}
use Rattle.qn_net.proofs.LineLemmas.{counted_off, none_zero, none_above, none_at_all, step_none, first_none}
use Rattle.qn_net.proofs.lines.first_miscounted.Goals as goal

pub loop-n-init : goal.loop-n-init
loop-n-init c = first_none (IsMiscounted c.args.table.now) (counted_off c.args.table.now 0 (none_zero c.args.table.now c.known.ensures))

pub loop-n-preserved : goal.loop-n-preserved
loop-n-preserved c =
    step_none (IsMiscounted c.args.table.now) c.loop-n.n c.loop-n.invariant (λ p. false≢true (sym c.if-is_miscounted.false ∙ c.is_miscounted.ensures.1 p))

pub returns : goal.returns
returns c =
    none_at_all (IsMiscounted c.args.table.now) (counted_off c.args.table.now 0 (none_zero c.args.table.now c.known.ensures))
    (λ n l. counted_off c.args.table.now n (none_above c.args.table.now c.known.ensures n l))
    (λ n l. c.loop-n.invariant n (omega (arith, l)))
