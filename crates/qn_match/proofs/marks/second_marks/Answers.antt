use Rattle.std.proofs.Common.{arith, ◌∙◌, ◌++◌, ◌∷◌, [], ap, sym, Bool, List}
use Rattle.std.proofs.lemmas.List.FromFn.{map-range_with_len_more}
use Rattle.qn_match.specs.Pairs.{is_second}
use Rattle.qn_match.proofs.marks.second_marks.Goals as goal

pub loop-leg-preserved : goal.loop-leg-preserved
loop-leg-preserved c =
    let leg = c.loop-leg.leg in
    c.in_ok-push.ensures.items
    ∙ (ap (λ (b : Bool). c.loop-leg.out.items ++ b ∷ []) c.is_second.ensures
    ∙ (ap (λ (xs : List Bool). xs ++ is_second c.args.shared.now leg ∷ []) c.loop-leg.invariant
    ∙ sym (map-range_with_len_more (is_second c.args.shared.now) 0 leg leg (omega arith))))
