use Rattle.std.proofs.Common.{lit<, ◌∙◌, ap, map, subst, sym}
use Rattle.std.specs.List.{All}
use Rattle.qn_auto.specs.Automaton.{stage}
use Rattle.qn_auto.specs.Terms.{IsTermOf}
use Rattle.qn_auto.proofs.Terms.{terms_hold}
use Rattle.qn_mpo.specs.States.{with_charge}
use Rattle.qn_mpo.proofs.Links.{link_is}
use Rattle.qn_mpo.proofs.link.link_states.Goals as goal

pub term_states-requires : goal.term_states-requires
term_states-requires g c = (lit< tt, (lit< tt, subst (All (IsTermOf c.args.sum.now)) (sym c.requires) (terms_hold c.args.sum.now c.known.ensures)))

pub returns : goal.returns
returns g c =
    link_is c.args.sum.now c.args.j c.in_ok-states.states.items c.sort_states.new.states.items c.in_ok-made.made.items
    (c.in_ok-states.ensures ∙ ap (map (λ w. with_charge c.args.sum.now (stage c.args.j w.factors))) c.requires) c.sort_states.ensures.permutation c.sort_states.ensures.sorted c.in_ok-made.ensures
