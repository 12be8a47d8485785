use Rattle.std.proofs.Common.{◌≡◌, ◌+◌, map}
use Rattle.qn_parts.specs.Faults.{first_from, first_of}
use Rattle.qn_sumdoc.specs.Objects.{named}
use Rattle.qn_sumdoc.specs.Operators.{operator_fault}
use Rattle.qn_sumdoc.proofs.OwnSites.{AreFirstOperators}
use Rattle.qn_sumdoc.proofs.owned.each_operator.Given as goal

abbrev pub invariant-loop-name : goal.invariant-loop-name
invariant-loop-name g l = record {
  walk : first_from (operator_fault l.group l.leg l.site) (l.before + 1) (map named l.name-iterator) ≡ first_of (operator_fault l.group l.leg l.site) (map named l.members.entries);
  made : AreFirstOperators l.group l.leg (map named l.members.entries) (map named l.name-iterator) (map (λ o. record { name = o.0; charge = o.1; entries = o.2.items }) l.made.items);
}
