use Rattle.std.proofs.Common.{◌<◌, ◌∙◌, subst, sym}
use Rattle.qn_value.specs.Networks.{End}
use Rattle.qn_net.specs.Refusals.{tally}
use Rattle.qn_net.specs.Tables.{HasLabel}
use Rattle.qn_net.proofs.LineLemmas.{pos_label}
use Rattle.qn_net.proofs.table.LabelTable.positive_spot.Goals as goal

pub spot-requires-clause-label : goal.spot-requires-clause-label
spot-requires-clause-label c = subst HasLabel (sym c.positive_end.ensures) (pos_label c.args.n c.requires.some c.requires.range)

pub spot-requires-clause-stands : goal.spot-requires-clause-stands
spot-requires-clause-stands c = subst (λ (e : End). 0 < tally e c.args.self.now) (sym c.positive_end.ensures) c.requires.stands

pub returns-clause-here : goal.returns-clause-here
returns-clause-here c = c.spot.ensures.here ∙ c.positive_end.ensures
