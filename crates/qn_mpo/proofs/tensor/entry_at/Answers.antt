use Rattle.std.proofs.Common.{rules, arith, lit<, subst, sym, ap, ◌∙◌, ◌≡◌, ◌<◌, length}
use Rattle.qn_index.specs.Places.{IsValues}
use Rattle.qn_auto.specs.Automaton.{stage_at}
use Rattle.qn_auto.specs.SumAutomaton.{entry_at_site, legs_at}
use Rattle.qn_mpo.specs.Rows.{left_stages}
use Rattle.qn_mpo.proofs.LeftStates.{left_entry, no_left_entry, row_at, some_left}
use Rattle.qn_mpo.proofs.tensor.entry_at.Goals as goal

pub bounds-rows-0 : goal.bounds-rows-0
bounds-rows-0 g c =
    let v = c.args.scene.now.sum in
    let j = c.args.scene.now.site in
    let p = no_left_entry v j c.args.values.now (sym c.site.ensures ∙ c.if-site-eq0.true) c.requires.values in
    let lt : 0 < length c.args.rows.now = subst (λ n. 0 < n) (sym c.requires.rows.count) p.0 in
    search rules

pub entry_from-requires : goal.entry_from-requires
entry_from-requires g c =
    let v = c.args.scene.now.sum in
    let j = c.args.scene.now.site in
    let p = no_left_entry v j c.args.values.now (sym c.site.ensures ∙ c.if-site-eq0.true) c.requires.values in
    (lit< tt, p.1)

pub returns-then-site-eq0 : goal.returns-then-site-eq0
returns-then-site-eq0 g c =
    let v = c.args.scene.now.sum in
    let j = c.args.scene.now.site in
    let p = no_left_entry v j c.args.values.now (sym c.site.ensures ∙ c.if-site-eq0.true) c.requires.values in
    c.entry_from.ensures (stage_at (left_stages v j) 0) (row_at v j 0 c.args.rows.now c.index-rows-0.result c.requires.rows p.0 c.index-rows-0.is) ∙ sym p.2

pub returns-in_default : goal.returns-in_default
returns-in_default g c =
    let j = c.args.scene.now.site in
    let some = some_left c.args.scene.now.sum j c.args.values.now (omega (arith, c.site.ensures, c.if-site-eq0.false)) c.requires.values in
    let none : length c.args.values.now ≡ 0 = search rules in
    absurd (omega (arith, some, none))

pub bounds-rows-left : goal.bounds-rows-left
bounds-rows-left g c =
    let v = c.args.scene.now.sum in
    let j = c.args.scene.now.site in
    let some : 0 < j = omega (arith, c.site.ensures, c.if-site-eq0.false) in
    let p = left_entry v j c.in-Some.left.now c.in-Some.own.now some (subst (IsValues (legs_at v j)) c.in-Some.ensures.cases.0 c.requires.values) in
    subst (λ n. c.in-Some.left.now < n) (sym c.requires.rows.count) p.0

pub entry_from-requires-2 : goal.entry_from-requires-2
entry_from-requires-2 g c =
    let v = c.args.scene.now.sum in
    let j = c.args.scene.now.site in
    let some : 0 < j = omega (arith, c.site.ensures, c.if-site-eq0.false) in
    let p = left_entry v j c.in-Some.left.now c.in-Some.own.now some (subst (IsValues (legs_at v j)) c.in-Some.ensures.cases.0 c.requires.values) in
    (lit< tt, p.1)

pub returns : goal.returns
returns g c =
    let v = c.args.scene.now.sum in
    let j = c.args.scene.now.site in
    let some : 0 < j = omega (arith, c.site.ensures, c.if-site-eq0.false) in
    let p = left_entry v j c.in-Some.left.now c.in-Some.own.now some (subst (IsValues (legs_at v j)) c.in-Some.ensures.cases.0 c.requires.values) in
    c.entry_from-2.ensures (stage_at (left_stages v j) c.in-Some.left.now) (row_at v j c.in-Some.left.now c.args.rows.now c.index-rows-left.result c.requires.rows p.0 c.index-rows-left.is)
    ∙ sym (ap (entry_at_site v j) c.in-Some.ensures.cases.0 ∙ p.2)
