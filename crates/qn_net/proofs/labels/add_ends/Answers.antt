use Rattle.std.proofs.Common.{◌≡◌, ◌<◌, ℤ, pos, List, [], ◌∷◌, ◌++◌, refl, sym, ◌∙◌, ap, ap₂, take, length, get_or, append_assoc, arith}
use Rattle.qn_index.specs.declared.leg.Dir.{Dir}
use Rattle.qn_value.specs.Networks.{End}
use Rattle.qn_value.specs.Labels.{is_inward, slots_of, ends}
use Rattle.qn_net.specs.Members.{member_tensor, leg_at}
use Rattle.qn_net.proofs.EndLemmas.{slots_more}
use Rattle.qn_net.proofs.labels.add_ends.Goals as goal

pub loop-j-preserved : goal.loop-j-preserved
loop-j-preserved g c =
    let l : ℤ = get_or c.labels-labels.result.now c.loop-j.j (pos 0) in
    let long : length c.labels-labels.result.now ≡ length (member_tensor c.args.t.now.member).legs = ap (λ (xs : List ℤ). length xs) c.labels-labels.ensures ∙ c.requires in
    let lt : c.loop-j.j < length (member_tensor c.args.t.now.member).legs = omega arith in
    let end : c.leg_end.result ≡ record { label = l; inward = is_inward (leg_at c.args.t.now c.loop-j.j).arrow } =
    c.leg_end.ensures ∙ ap (λ (d : Dir). let e : End = record { label = l; inward = is_inward d } in e) c.dir.ensures in
    c.in_ok-push.ensures.items
    ∙ ap₂ (λ (es : List End) (e : End). es ++ e ∷ []) c.loop-j.invariant end
    ∙ append_assoc c.args.list.now.items (ends (slots_of (take c.loop-j.j (member_tensor c.args.t.now.member).legs) (take c.loop-j.j c.labels-labels.result.now))) (record { label = l; inward = is_inward (leg_at c.args.t.now c.loop-j.j).arrow } ∷ [])
    ∙ ap (λ (es : List End). c.args.list.now.items ++ es) (sym (slots_more (member_tensor c.args.t.now.member).legs c.labels-labels.result.now c.loop-j.j l (pos 0) lt long refl))
