use Rattle.std.proofs.Common.{rules, of_calls, nat_le, []}
use Rattle.std.proofs.lemmas.List.Sorted.{IsPartitionedBy-leb, IsNonDecreasingBy-from_default}
use Rattle.std.proofs.lemmas.Fn.{always_returns_same}
use Rattle.qn_block.specs.Combiners.{StartValue}
use Rattle.qn_block.proofs.Matching.{IsLast, last_is}
use Rattle.qn_block.proofs.starts.last_start.Goals as goal

last : (c : goal.After-partition_point) → IsLast c.args.starts.now c.args.value c.partition_point.result
last c =
    let start : StartValue → _ = λ (s : StartValue). s.start in
    let point = c.partition_point.ensures.partitioned (λ (s : StartValue). nat_le s.start c.args.value) (always_returns_same _ _ _ (λ a r f k. search (rules, of_calls)))
    (IsPartitionedBy-leb start c.args.starts.now c.args.value (IsNonDecreasingBy-from_default start c.args.starts.now (record { tuple = []; start = 0 }) c.requires.ascending)) in
    last_is c.args.starts.now c.args.value c.partition_point.result c.requires.some c.requires.first c.partition_point.ensures.bound point

pub overflow_sub-result : goal.overflow_sub-result
overflow_sub-result c = (last c).some

pub returns-clause-there : goal.returns-clause-there
returns-clause-there c = (last c).there

pub returns-clause-upto : goal.returns-clause-upto
returns-clause-upto c = (last c).upto

pub returns-clause-after : goal.returns-clause-after
returns-clause-after c = (last c).after
