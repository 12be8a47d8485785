use Rattle.std.proofs.Common.{rules, of_calls, nat_lt, []}
use Rattle.std.proofs.lemmas.List.Sorted.{IsPartitionedBy-ltb, IsNonDecreasingBy-from_default}
use Rattle.std.proofs.lemmas.Fn.{always_returns_same}
use Rattle.qn_block.specs.Combiners.{StartValue}
use Rattle.qn_fuse.proofs.Starts.{count_is}
use Rattle.qn_fuse.proofs.lookup.count_before.Goals as goal

pub returns : goal.returns
returns c =
    let start : StartValue → _ = λ (s : StartValue). s.start in
    let point = c.partition_point.ensures.partitioned (λ (s : StartValue). nat_lt s.start c.args.value) (always_returns_same _ _ _ (λ a r f k. search (rules, of_calls)))
    (IsPartitionedBy-ltb start c.args.starts.now c.args.value (IsNonDecreasingBy-from_default start c.args.starts.now (record { tuple = []; start = 0 }) c.requires)) in
    count_is c.args.starts.now c.args.value c.partition_point.result c.partition_point.ensures.bound point
