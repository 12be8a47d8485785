use Rattle.std.proofs.Common.{rules, ◌≡◌, ◌∙◌, ap, lit<, filter}
use Rattle.std.proofs.lemmas.Fn.{filter_same}
use Rattle.qn_block.specs.Blocked.{is_filled}
use Rattle.qn_block.proofs.Ascending.{blocked_at, filtered_is, filtered_entry}
use Rattle.qn_block.proofs.tensor.BlockTensor.canonical.Goals as goal

pub of_blocks-requires : goal.of_blocks-requires
of_blocks-requires g c =
    let p = c.into_parts-group.ensures in
    let t = c.args.self in
    let kept : c.retain.new.self.items ≡ filter is_filled t.blocks = filter_same _ _ _ (λ x b f' k. search rules) _ _ c.retain.ensures.filtered ∙ ap (filter is_filled) p.blocks in
    let b = blocked_at (record { group = t.group; legs = t.legs; flux = t.flux; blocks = filter is_filled t.blocks }) _ _ _ _ p.group p.legs p.flux kept (filtered_is t p.known) in
    (lit< tt, (lit< tt, (lit< tt, (lit< tt, (b.charges, (b.flux, (b.shape, (b.blocks, b.ascending))))))))

pub returns-clause-blocks : goal.returns-clause-blocks
returns-clause-blocks g c =
    let p = c.into_parts-group.ensures in
    let t = c.args.self in
    let kept : c.retain.new.self.items ≡ filter is_filled t.blocks = filter_same _ _ _ (λ x b f' k. search rules) _ _ c.retain.ensures.filtered ∙ ap (filter is_filled) p.blocks in
    cc (c.of_blocks.ensures, p.group, p.legs, p.flux, kept)

pub returns-clause-entries : goal.returns-clause-entries
returns-clause-entries g c = λ xs.
    let p = c.into_parts-group.ensures in
    let t = c.args.self in
    let kept : c.retain.new.self.items ≡ filter is_filled t.blocks = filter_same _ _ _ (λ x b f' k. search rules) _ _ c.retain.ensures.filtered ∙ ap (filter is_filled) p.blocks in
    filtered_entry t c.of_blocks.result xs p.known (cc (c.of_blocks.ensures, p.group, p.legs, p.flux, kept))
