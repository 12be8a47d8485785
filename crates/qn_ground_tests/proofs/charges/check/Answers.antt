use Rattle.std.proofs.Common.{arith, ◌+◌, ◌^◌}
use Rattle.qn_charge.specs.Laws.{within_sum, within_neg, within_more}
use Rattle.qn_charge.specs.Charges.{sum_charge, neg_charge}
use Rattle.qn_ground_tests.proofs.charges.check.Goals as goal

pub sum_of-requires-clause-within : goal.sum_of-requires-clause-within
sum_of-requires-clause-within g c =
    let fs = c.args.group.now in
    let a = c.charge_of-first.result in
    let b = c.charge_of-second.result in
    within_more (2 ^ 60 + 2 ^ 60) (2 ^ 62) fs (sum_charge fs a b) (omega arith) (within_sum (2 ^ 60) (2 ^ 60) fs a b c.charge_of-first.ensures.within c.charge_of-second.ensures.within)

pub negative_of-requires-clause-within : goal.negative_of-requires-clause-within
negative_of-requires-clause-within g c =
    let fs = c.args.group.now in
    let a = c.charge_of-first.result in
    within_more (2 ^ 60) (2 ^ 62) fs (neg_charge fs a) (omega arith) (within_neg (2 ^ 60) fs a c.charge_of-first.ensures.within)
