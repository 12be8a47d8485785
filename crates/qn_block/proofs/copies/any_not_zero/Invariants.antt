use Rattle.std.proofs.Common.{◌≡◌, take, false, not}
use Rattle.std.specs.List.{list_any}
use Rattle.qn_block.specs.Blocked.{is_zero}
use Rattle.qn_block.proofs.copies.any_not_zero.Given as goal

abbrev pub invariant-loop-entry : goal.invariant-loop-entry
invariant-loop-entry l = list_any (λ z. not (is_zero z)) (take l.entry-index l.entries) ≡ false
