use Rattle.std.proofs.Common.{rules, ◌≡◌}
use Rattle.std.specs.Ordering.{is_lt}
use Rattle.std.proofs.lemmas.Cmp.{nat_list_cmp_total}
use Rattle.std.proofs.lemmas.Fn.{always_returns_same}
use Rattle.std.proofs.lemmas.List.Sorted.{ranks_by}
use Rattle.qn_value.specs.Tensors.{BlockValue}
use Rattle.qn_permute.specs.Moved.{is_before}
use Rattle.qn_permute.proofs.tensor.sort_blocks.Goals as goal

pub returns-clause-sorted : goal.returns-clause-sorted
returns-clause-sorted c =
    c.in_ok-sort_by.ensures.sorted is_before (ranks_by nat_list_cmp_total (λ (b : BlockValue). b.tuple))
    (always_returns_same _ (λ a r. is_lt r ≡ is_before a.0.now a.1.0.now) _ (λ a r q k. search rules))
