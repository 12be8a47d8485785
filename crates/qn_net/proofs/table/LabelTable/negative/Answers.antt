use Rattle.std.proofs.Common.{◌∙◌, ap, subst, sym}
use Rattle.qn_value.specs.Networks.{End}
use Rattle.qn_net.specs.Refusals.{tally}
use Rattle.qn_net.specs.Tables.{HasLabel}
use Rattle.qn_net.proofs.LineLemmas.{negsuc_label}
use Rattle.qn_net.proofs.table.LabelTable.negative.Goals as goal

pub count-requires : goal.count-requires
count-requires c = subst HasLabel (sym c.negative_end.ensures) (negsuc_label c.args.n c.requires)

pub returns : goal.returns
returns c = c.count.ensures ∙ ap (λ (e : End). tally e c.args.self.now) c.negative_end.ensures
