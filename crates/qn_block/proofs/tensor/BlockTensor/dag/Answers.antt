use Rattle.std.proofs.Common.{arith, ◌≡◌, ◌∙◌, ap, sym, subst, lit<, List}
use Rattle.qn_charge.specs.Charges.{IsCanonical, IsWithin, neg_charge}
use Rattle.qn_charge.specs.Laws.{within_neg, within_more}
use Rattle.qn_charge.specs.declared.factor.Factor.{Factor}
use Rattle.qn_block.specs.Blocked.{conjugate_legs}
use Rattle.qn_block.proofs.Dagger.{AreConjugates, conjugates_at, conjugate_parts, conjugate_result}
use Rattle.qn_block.proofs.tensor.BlockTensor.dag.Goals as goal

pub neg-flux-requires : goal.neg-flux-requires
neg-flux-requires g c =
    let t = c.args.self.now in
    let canonical : IsCanonical c.group.result.now c.flux.result.now = subst (λ (fs : List Factor). IsCanonical fs c.flux.result.now) (sym c.group.ensures) (subst (IsCanonical t.group) (sym c.flux.ensures) c.known.ensures.flux.canonical) in
    let wide : IsWithin 1125899906842624 c.group.result.now c.flux.result.now = subst (λ (fs : List Factor). IsWithin 1125899906842624 fs c.flux.result.now) (sym c.group.ensures) (subst (IsWithin 1125899906842624 t.group) (sym c.flux.ensures) c.known.ensures.flux.within) in
    (lit< tt, (lit< tt, (canonical, within_more 1125899906842624 4611686018427387904 c.group.result.now (neg_charge c.group.result.now c.flux.result.now) (omega arith) (within_neg 1125899906842624 c.group.result.now c.flux.result.now wide))))

pub of_blocks-requires : goal.of_blocks-requires
of_blocks-requires g c =
    let t = c.args.self.now in
    let legs : c.in_ok-legs.legs.items ≡ conjugate_legs t.legs = c.in_ok-legs.ensures ∙ ap conjugate_legs c.legs.ensures in
    let flux : c.neg-flux.result ≡ neg_charge t.group t.flux = c.neg-flux.ensures.value ∙ (ap (λ (fs : List Factor). neg_charge fs c.flux.result.now) c.group.ensures ∙ ap (neg_charge t.group) c.flux.ensures) in
    let made : AreConjugates t.legs t.blocks c.in_ok-blocks.blocks.items =
    conjugates_at c.legs-2.result.now t.legs c.blocks-2.result.now t.blocks c.in_ok-blocks.blocks.items c.legs-2.ensures c.blocks-2.ensures (record { count = c.in_ok-blocks.ensures.count; blocks = c.in_ok-blocks.ensures.blocks }) in
    let b = conjugate_parts t c.group-2.result.now c.in_ok-legs.legs.items c.neg-flux.result c.in_ok-blocks.blocks.items c.sort_blocks.new.blocks.items c.known.ensures made c.sort_blocks.ensures.permutation c.sort_blocks.ensures.ascending c.group-2.ensures legs flux in
    (lit< tt, (lit< tt, (lit< tt, (lit< tt, (b.charges, (b.flux, (b.shape, (b.blocks, b.ascending))))))))

pub returns : goal.returns
returns g c =
    let t = c.args.self.now in
    let legs : c.in_ok-legs.legs.items ≡ conjugate_legs t.legs = c.in_ok-legs.ensures ∙ ap conjugate_legs c.legs.ensures in
    let flux : c.neg-flux.result ≡ neg_charge t.group t.flux = c.neg-flux.ensures.value ∙ (ap (λ (fs : List Factor). neg_charge fs c.flux.result.now) c.group.ensures ∙ ap (neg_charge t.group) c.flux.ensures) in
    let made : AreConjugates t.legs t.blocks c.in_ok-blocks.blocks.items =
    conjugates_at c.legs-2.result.now t.legs c.blocks-2.result.now t.blocks c.in_ok-blocks.blocks.items c.legs-2.ensures c.blocks-2.ensures (record { count = c.in_ok-blocks.ensures.count; blocks = c.in_ok-blocks.ensures.blocks }) in
    conjugate_result t c.of_blocks.result c.group-2.result.now c.in_ok-legs.legs.items c.neg-flux.result c.in_ok-blocks.blocks.items c.sort_blocks.new.blocks.items c.known.ensures made c.sort_blocks.ensures.permutation c.sort_blocks.ensures.ascending c.group-2.ensures legs flux c.of_blocks.ensures
