use Rattle.std.proofs.Common.{◌≡◌, ◌<◌, ℤ, pos, List, [], ◌∷◌, ◌++◌, refl, sym, ◌∙◌, ap, ap₂, length, get_or, arith}
use Rattle.qn_index.specs.declared.leg.Dir.{Dir}
use Rattle.qn_value.specs.Networks.{End}
use Rattle.qn_value.specs.Labels.{is_inward}
use Rattle.qn_net.specs.Members.{member_tensor, leg_at}
use Rattle.qn_net.proofs.EndLemmas.{slots_more}
use Rattle.qn_plan.proofs.member.ends_of.Goals as goal

pub loop-j-preserved : goal.loop-j-preserved
loop-j-preserved g c =
    let legs = (member_tensor c.args.member.now.member).legs in
    let l : ℤ = get_or c.labels-labels.result.now c.loop-j.j (pos 0) in
    let long : length c.labels-labels.result.now ≡ length (member_tensor c.args.member.now.member).legs = ap (λ (xs : List ℤ). length xs) c.labels-labels.ensures ∙ c.requires in
    let lt : c.loop-j.j < length (member_tensor c.args.member.now.member).legs = omega (arith, c.loop-j-test.true, long) in
    let end : c.leg_end.result ≡ record { label = l; inward = is_inward (leg_at c.args.member.now c.loop-j.j).arrow } =
    c.leg_end.ensures ∙ ap (λ (d : Dir). let e : End = record { label = l; inward = is_inward d } in e) c.dir.ensures in
    c.in_ok-push.ensures.items
    ∙ ap₂ (λ (es : List End) (e : End). es ++ e ∷ []) c.loop-j.invariant end
    ∙ sym (slots_more legs c.labels-labels.result.now c.loop-j.j l (pos 0) lt long refl)
