use Rattle.std.proofs.Common.{◌≡◌, ◌+◌, ◌++◌, map, length}
use Rattle.std.specs.List.{All}
use Rattle.serde_json.specs.View.{view}
use Rattle.qn_parts.specs.Faults.{first_from, first_of}
use Rattle.qn_parts.specs.Tensors.{tensor_fault, tensor_of}
use Rattle.qn_sumdoc.specs.Chains.{IsStateTensor}
use Rattle.qn_sumdoc.proofs.chains.each_tensor.Given as goal

abbrev pub invariant-loop-rest : goal.invariant-loop-rest
invariant-loop-rest g l = record {
  walk : first_from (λ k t. tensor_fault l.group (l.base + k) t) (l.before + 1) (map view l.rest) ≡ first_of (λ k t. tensor_fault l.group (l.base + k) t) (map view l.list);
  made : l.made.items ++ map (tensor_of l.group) (map view l.rest) ≡ map (tensor_of l.group) (map view l.list);
  each : All (IsStateTensor l.group) l.made.items;
}

abbrev pub decreases-loop-rest : goal.decreases-loop-rest
decreases-loop-rest g l = length l.rest
