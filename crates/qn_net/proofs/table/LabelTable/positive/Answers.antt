use Rattle.std.proofs.Common.{◌∙◌, ap, subst, sym}
use Rattle.qn_value.specs.Networks.{End}
use Rattle.qn_net.specs.Refusals.{tally}
use Rattle.qn_net.specs.Tables.{HasLabel}
use Rattle.qn_net.proofs.LineLemmas.{pos_label}
use Rattle.qn_net.proofs.table.LabelTable.positive.Goals as goal

pub count-requires : goal.count-requires
count-requires c = subst HasLabel (sym c.positive_end.ensures) (pos_label c.args.n c.requires.some c.requires.range)

pub returns : goal.returns
returns c = c.count.ensures ∙ ap (λ (e : End). tally e c.args.self.now) c.positive_end.ensures
