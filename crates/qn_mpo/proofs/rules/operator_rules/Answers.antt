use Rattle.std.proofs.Common.{◌∙◌, ap, map}
use Rattle.qn_mpo.specs.OperatorRules.{rules_in}
use Rattle.qn_mpo.proofs.OperatorRules.{rules_answer, rules_count}
use Rattle.qn_mpo.proofs.rules.operator_rules.Goals as goal

pub returns-clause-count : goal.returns-clause-count
returns-clause-count g c = rules_count _ c.args.sum.now c.in_ok-all.all.items (c.in_ok-all.ensures ∙ ap (map rules_in) c.sites.ensures)

pub returns-clause-rules : goal.returns-clause-rules
returns-clause-rules g c = rules_answer _ c.args.sum.now c.known.ensures c.in_ok-all.all.items (c.in_ok-all.ensures ∙ ap (map rules_in) c.sites.ensures)
