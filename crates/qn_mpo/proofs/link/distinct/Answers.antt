use Rattle.std.proofs.Common.{◌∙◌, [], ap, ap₂, reverse}
use Rattle.std.proofs.lemmas.List.{reverse-reverse}
use Rattle.qn_auto.specs.LinkOrder.{squeeze}
use Rattle.qn_mpo.specs.States.{value_lower}
use Rattle.qn_mpo.proofs.Links.{squeeze_step}
use Rattle.qn_mpo.proofs.link.distinct.Goals as goal

pub loop-state-init : goal.loop-state-init
loop-state-init g c =
    ap₂ (λ o r. squeeze value_lower o (reverse r)) c.new-out.ensures.items c.reverse.ensures.items ∙ ap (squeeze value_lower []) (reverse-reverse c.args.states.items)

pub loop-state-preserved : goal.loop-state-preserved
loop-state-preserved g c =
    squeeze_step c.loop-state.out.items c.add_new.new.out.items c.loop-state.rest.items c.pop.new.self.items c.in-Some.state c.in-Some.ensures.items c.in_ok-add_new.ensures ∙ c.loop-state.invariant
