use Rattle.std.proofs.Common.{◌≡◌, ℕ, ◌++◌, map, None, length}
use Rattle.serde_json.specs.View.{view}
use Rattle.qn_parts.specs.Faults.{first_from}
use Rattle.qn_parts.specs.Groups.{modulus_fault, factor_of}
use Rattle.qn_parts.proofs.groups.made_factors.Given as goal

abbrev pub invariant-loop-rest : goal.invariant-loop-rest
invariant-loop-rest l = record {
  right : (n : ℕ) × (first_from modulus_fault n (map view l.rest) ≡ None);
  made : l.made.items ++ map factor_of (map view l.rest) ≡ map factor_of (map view l.list);
}

abbrev pub decreases-loop-rest : goal.decreases-loop-rest
decreases-loop-rest l = length l.rest
