use Rattle.std.proofs.Common.{◌≡◌, map, take}
use Rattle.qn_mpo.specs.OperatorRules.{rule_of}
use Rattle.qn_mpo.proofs.rules.rules_of.Given as goal

abbrev pub invariant-loop-op : goal.invariant-loop-op
invariant-loop-op g l = l.rules.items ≡ map rule_of (take l.op-index l.ops)
