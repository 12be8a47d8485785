use Rattle.std.proofs.Common.{◌∙◌, ap, length, Bool, List}
use Rattle.qn_strides.proofs.Placing.{parities_long}
use Rattle.qn_strides.proofs.plan.is_minus.Goals as goal

pub sign_of-requires-clause-count : goal.sign_of-requires-clause-count
sign_of-requires-clause-count g c =
    ap (λ (xs : List Bool). length xs) (c.deref.ensures.value ∙ c.in_ok-odd.ensures) ∙ parities_long c.args.group.now c.args.legs.now c.args.tuple.now c.requires.tuple
