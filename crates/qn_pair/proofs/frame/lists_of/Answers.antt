use Rattle.std.proofs.Common.{rules, ◌≡◌, ◌<◌, ◌++◌, refl, sym, ◌∙◌, ap, ap₂, subst, lit<, length, List, ℕ}
use Rattle.std.specs.List.{All}
use Rattle.qn_index.specs.Legs.{LegValue}
use Rattle.qn_value.specs.Local.{no_leg, picked, IsCouple}
use Rattle.qn_strides.specs.Strides.{goal_places, open_places}
use Rattle.qn_kernel.specs.Sources.{couples_of}
use Rattle.qn_pair.proofs.Called.{framed}
use Rattle.qn_pair.proofs.frame.lists_of.Goals as goal

pub goal_places-requires : goal.goal_places-requires
goal_places-requires g c =
    let long : c.in_ok-word.word.len ≡ length c.in_ok-word.word.items = search rules in
    let f = framed c.args.a.now c.args.b.now c.args.shared.now c.in_ok-word.word.items c.in_ok-couples.couples.items c.in_ok-places.places.items (goal_places c.in_ok-word.word.items c.in_ok-couples.couples.items) (picked no_leg c.in_ok-word.word.items c.in_ok-places.places.items) c.known.ensures c.known-2.ensures c.requires
    (c.in_ok-word.ensures ∙ ap₂ (λ xs ys. xs ++ ys) c.legs.ensures c.legs-2.ensures) (c.in_ok-couples.ensures ∙ ap (λ (ls : List LegValue). couples_of (length ls) c.args.shared.now) c.legs-3.ensures)
    (c.in_ok-places.ensures ∙ ap₂ open_places c.deref.ensures.value (c.len.ensures ∙ long)) refl refl in
    let places : c.in_ok-places.places.items ≡ open_places c.in_ok-couples.couples.items (length c.in_ok-word.word.items) = c.in_ok-places.ensures ∙ ap₂ open_places c.deref.ensures.value (c.len.ensures ∙ long) in (
      lit< tt,
      (
        subst (λ ls. All (IsCouple ls) c.deref-3.result.now) (sym c.deref-2.ensures.value) (subst (λ cs. All (IsCouple c.in_ok-word.word.items) cs) (sym c.deref-3.ensures.value) f.couples),
        c.deref-4.ensures.value ∙ places ∙ sym (λ i. open_places (c.deref-3.ensures.value i) (length (c.deref-2.ensures.value i))),
      ),
    )

pub legs_at-requires : goal.legs_at-requires
legs_at-requires g c =
    let long : c.in_ok-word.word.len ≡ length c.in_ok-word.word.items = search rules in
    let f = framed c.args.a.now c.args.b.now c.args.shared.now c.in_ok-word.word.items c.in_ok-couples.couples.items c.in_ok-places.places.items (goal_places c.in_ok-word.word.items c.in_ok-couples.couples.items) (picked no_leg c.in_ok-word.word.items c.in_ok-places.places.items) c.known.ensures c.known-2.ensures c.requires
    (c.in_ok-word.ensures ∙ ap₂ (λ xs ys. xs ++ ys) c.legs.ensures c.legs-2.ensures) (c.in_ok-couples.ensures ∙ ap (λ (ls : List LegValue). couples_of (length ls) c.args.shared.now) c.legs-3.ensures)
    (c.in_ok-places.ensures ∙ ap₂ open_places c.deref.ensures.value (c.len.ensures ∙ long)) refl refl in
    (lit< tt, subst (λ (ls : List LegValue). All (λ k. k < length ls) c.deref-6.result.now) (sym c.deref-5.ensures.value) (subst (λ (is : List ℕ). All (λ k. k < length c.in_ok-word.word.items) is) (sym c.deref-6.ensures.value) f.within))

pub returns : goal.returns
returns g c =
    let long : c.in_ok-word.word.len ≡ length c.in_ok-word.word.items = search rules in
    let f = framed c.args.a.now c.args.b.now c.args.shared.now c.in_ok-word.word.items c.in_ok-couples.couples.items c.in_ok-places.places.items c.in_ok-goal.goal.items c.in_ok-left.left.items c.known.ensures c.known-2.ensures c.requires
    (c.in_ok-word.ensures ∙ ap₂ (λ xs ys. xs ++ ys) c.legs.ensures c.legs-2.ensures) (c.in_ok-couples.ensures ∙ ap (λ (ls : List LegValue). couples_of (length ls) c.args.shared.now) c.legs-3.ensures)
    (c.in_ok-places.ensures ∙ ap₂ open_places c.deref.ensures.value (c.len.ensures ∙ long)) (c.in_ok-goal.ensures ∙ ap₂ goal_places c.deref-2.ensures.value c.deref-3.ensures.value)
    (c.in_ok-left.ensures ∙ ap₂ (picked no_leg) c.deref-5.ensures.value c.deref-6.ensures.value) in
    record { frame = f.frame; left_is = f.left_is }
