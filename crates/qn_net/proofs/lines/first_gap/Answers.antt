use Rattle.std.proofs.Common.{◌∙◌, sym, refl}
use Rattle.std.proofs.lemmas.Bool.{false≢true}
use Rattle.qn_net.proofs.LineLemmas.{gap_first, gap_none, gap_nowhere}
use Rattle.qn_net.proofs.lines.first_gap.Goals as goal

pub returns-then-stands_beyond : goal.returns-then-stands_beyond
returns-then-stands_beyond c = gap_first c.args.table.now c.in-Some.n c.in-Some.ensures.some (c.stands_beyond.ensures.0 c.if-stands_beyond.true)

pub returns-else-stands_beyond : goal.returns-else-stands_beyond
returns-else-stands_beyond c =
    gap_none c.args.table.now c.in-Some.n c.in-Some.ensures.some (λ g. false≢true (sym c.if-stands_beyond.false ∙ c.stands_beyond.ensures.1 g))

pub returns-in-None : goal.returns-in-None
returns-in-None c = gap_nowhere c.args.table.now c.known.ensures (c.in-None.ensures.all refl)
