use Rattle.std.proofs.Common.{arith, List, ap, ◌≡◌, ◌∙◌, sym, length, take, get_or, lit<}
use Rattle.qn_index.specs.Legs.{LegValue}
use Rattle.qn_index.specs.Places.{sectors_at}
use Rattle.qn_gauss.specs.Gaussian.{zero_g}
use Rattle.qn_block.proofs.Entries.{reading, entry_of_none}
use Rattle.qn_block.proofs.tensor.BlockTensor.entry.Goals as goal

pub offset_of-requires : goal.offset_of-requires
offset_of-requires g c =
    let there = c.in-Some.ensures in
    let r = reading c.args.self.now c.args.values.now c.in-Some.block.now c.legs-legs.result.now _ _ c.known.ensures c.requires c.legs-legs.ensures c.placed.ensures.sectors c.placed.ensures.offsets there.0 there.1 in
    (lit< tt, (r.tuple, (r.inner, r.small)))

pub entry-requires : goal.entry-requires
entry-requires g c =
    let there = c.in-Some.ensures in
    let r = reading c.args.self.now c.args.values.now c.in-Some.block.now c.legs-legs.result.now _ _ c.known.ensures c.requires c.legs-legs.ensures c.placed.ensures.sectors c.placed.ensures.offsets there.0 there.1 in
    omega (arith, r.entry.below, r.offset, c.offset_of.ensures.value)

pub returns-in-Some : goal.returns-in-Some
returns-in-Some g c =
    let there = c.in-Some.ensures in
    let r = reading c.args.self.now c.args.values.now c.in-Some.block.now c.legs-legs.result.now _ _ c.known.ensures c.requires c.legs-legs.ensures c.placed.ensures.sectors c.placed.ensures.offsets there.0 there.1 in
    c.entry.ensures ∙ (ap (λ o. get_or c.in-Some.block.now.entries o zero_g) (c.offset_of.ensures.value ∙ r.offset) ∙ sym r.entry.entry)

pub returns-in-None : goal.returns-in-None
unfolding zero_g
returns-in-None g c =
    let ls = c.args.self.now.legs in
    let xs = c.args.values.now in
    let is : take (length c.legs-legs.result.now) c.placed.result.0 ≡ sectors_at ls xs = c.placed.ensures.sectors ∙ ap (λ (ks : List LegValue). sectors_at ks xs) c.legs-legs.ensures in
    sym (entry_of_none c.args.self.now xs c.known.ensures c.requires (λ j lt e. c.in-None.ensures j lt (e ∙ sym is)))
