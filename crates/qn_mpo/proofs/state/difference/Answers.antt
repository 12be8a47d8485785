use Rattle.std.proofs.Common.{arith, lit<, subst, sym}
use Rattle.qn_charge.specs.Charges.{IsWithin, neg_charge, sum_charge}
use Rattle.qn_charge.specs.Laws.{within_more, within_neg, within_sum}
use Rattle.qn_mpo.proofs.state.difference.Goals as goal

pub neg-opposite-requires : goal.neg-opposite-requires
neg-opposite-requires g c = (
  lit< tt,
  (
    lit< tt,
    (
      c.requires.second,
      within_more 320000000 4611686018427387904 c.args.group.now (neg_charge c.args.group.now c.args.b.now) (omega arith) (within_neg 320000000 c.args.group.now c.args.b.now c.requires.second_within),
    ),
  ),
)

pub add-requires : goal.add-requires
add-requires g c =
    let b = neg_charge c.args.group.now c.args.b.now in
    let small = within_more 640000000 4611686018427387904 c.args.group.now (sum_charge c.args.group.now c.args.a.now b) (omega arith)
    (within_sum 320000000 320000000 c.args.group.now c.args.a.now b c.requires.first_within (within_neg 320000000 c.args.group.now c.args.b.now c.requires.second_within)) in (
      lit< tt,
      (
        lit< tt,
        (
          c.requires.first,
          (
            c.neg-opposite.ensures.canonical,
            subst (λ q. IsWithin 4611686018427387904 c.args.group.now (sum_charge c.args.group.now c.args.a.now q)) (sym c.neg-opposite.ensures.value) small,
          ),
        ),
      ),
    )
