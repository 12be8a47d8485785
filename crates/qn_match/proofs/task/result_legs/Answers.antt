use Rattle.std.proofs.Common.{◌∙◌, ◌++◌, length, lit<, ap, ap₂, List, Bool}
use Rattle.qn_index.specs.Legs.{LegValue}
use Rattle.qn_match.specs.Pairs.{is_first, is_second, unmarked}
use Rattle.qn_match.proofs.Lefts.{marks_length}
use Rattle.qn_match.proofs.task.result_legs.Goals as goal

pub append_legs-requires : goal.append_legs-requires
append_legs-requires g c =
    (lit< tt, ap (λ (ms : List Bool). length ms) (c.deref.ensures.value ∙ c.in_ok-first_marks.ensures) ∙ marks_length (is_first c.args.shared.now) (length c.args.firsts.now))

pub append_legs-requires-2 : goal.append_legs-requires-2
append_legs-requires-2 g c =
    (lit< tt, ap (λ (ms : List Bool). length ms) (c.deref-2.ensures.value ∙ c.in_ok-second_marks.ensures) ∙ marks_length (is_second c.args.shared.now) (length c.args.seconds.now))

pub returns : goal.returns
returns g c =
    let ks = c.args.firsts.now in
    let ls = c.args.seconds.now in
    c.in_ok-append_legs-2.ensures
    ∙ ap₂ (λ (xs ys : List LegValue). xs ++ ys)
    (c.in_ok-append_legs.ensures ∙ ap₂ (λ (xs ys : List LegValue). xs ++ ys) c.new-legs.ensures.items (ap (λ (ms : List Bool). unmarked ms ks) (c.deref.ensures.value ∙ c.in_ok-first_marks.ensures)))
    (ap (λ (ms : List Bool). unmarked ms ls) (c.deref-2.ensures.value ∙ c.in_ok-second_marks.ensures))
