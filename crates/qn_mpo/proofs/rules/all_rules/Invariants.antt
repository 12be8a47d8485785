use Rattle.std.proofs.Common.{◌≡◌, map, take}
use Rattle.qn_mpo.specs.OperatorRules.{rules_in}
use Rattle.qn_mpo.proofs.rules.all_rules.Given as goal

abbrev pub invariant-loop-site : goal.invariant-loop-site
invariant-loop-site g l = map (λ v. v.items) l.all.items ≡ map rules_in (take l.site-index l.sites)
