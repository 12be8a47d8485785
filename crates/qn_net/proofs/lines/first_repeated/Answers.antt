use Rattle.std.proofs.Common.{◌∙◌, sym, arith}
use Rattle.std.proofs.lemmas.Bool.{false≢true}
use Rattle.qn_net.specs.Refusals.{IsRepeated}
use Rattle.qn_net.proofs.LineLemmas.{repeated_off, none_below, step_none, none_from}
use Rattle.qn_net.proofs.lines.first_repeated.Goals as goal

pub loop-n-preserved : goal.loop-n-preserved
loop-n-preserved c =
    step_none (IsRepeated c.args.table.now) c.loop-n.n c.loop-n.invariant (λ p. false≢true (sym c.if-is_repeated.false ∙ c.is_repeated.ensures.1 p))

pub returns : goal.returns
returns c =
    none_from (IsRepeated c.args.table.now) (λ n l. repeated_off c.args.table.now n (none_below c.args.table.now c.known.ensures n l))
    (λ n l. c.loop-n.invariant n (omega (arith, l)))
