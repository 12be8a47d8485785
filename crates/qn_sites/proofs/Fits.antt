-- Charges of values and of entries: they are of the group, and their parts are within bounds.
use Rattle.std.proofs.Common.{ℤ, ◌^◌, ◌+◌, List, arith}
use Rattle.qn_charge.specs.declared.factor.Factor.{Factor}
use Rattle.qn_charge.specs.Charges.{sum_charge, neg_charge, IsWithin}
use Rattle.qn_charge.specs.Laws.{within_more, within_neg, within_sum}

-- the negative of a leg's charge fits
pub neg_fits : (fs : List Factor) (a : List ℤ) → IsWithin 1000000000 fs a → IsWithin (2 ^ 62) fs (neg_charge fs a)
neg_fits fs a w = within_more 1000000000 (2 ^ 62) fs (neg_charge fs a) (omega arith) (within_neg 1000000000 fs a w)

-- the difference of two of a leg's charges fits
pub difference_fits : (fs : List Factor) (a b : List ℤ) → IsWithin 1000000000 fs a → IsWithin 1000000000 fs b → IsWithin (2 ^ 62) fs (sum_charge fs a (neg_charge fs b))
difference_fits fs a b v w =
    within_more (1000000000 + 1000000000) (2 ^ 62) fs (sum_charge fs a (neg_charge fs b)) (omega arith)
    (within_sum 1000000000 1000000000 fs a (neg_charge fs b) v (within_neg 1000000000 fs b w))
