use Rattle.std.proofs.Common.{arith, ◌∙◌, ◌++◌, List, ap, ap₂, length, drop, lit<}
use Rattle.qn_index.specs.Legs.{LegValue}
use Rattle.qn_index.specs.Places.{block_size}
use Rattle.qn_fuse.specs.Pieces.{entries_at}
use Rattle.qn_fuse.proofs.Parts.{source_at, source_len, is_source_of}
use Rattle.qn_fuse.proofs.fusing.source_of.Goals as goal

pub legs_from-requires : goal.legs_from-requires
legs_from-requires g c =
    let p = source_at c.args.t.now.legs c.args.first c.args.before.now (c.args.between.now ++ c.args.behind.now) c.known.ensures.sound c.requires.before c.requires.block in
    (lit< tt, omega (arith, p.legs, ap (λ (ls : List LegValue). length ls) c.legs.ensures))

pub block_len-len-requires : goal.block_len-len-requires
block_len-len-requires g c =
    let x = c.args.between.now ++ c.args.behind.now in
    let p = source_at c.args.t.now.legs c.args.first c.args.before.now x c.known.ensures.sound c.requires.before c.requires.block in (
      lit< tt,
      source_len c.args.t.now.legs c.args.first c.args.before.now x c.legs_from.result.now c.sectors_from.result.now p
          (c.legs_from.ensures ∙ ap (λ (ls : List LegValue). drop c.args.first ls) c.legs.ensures)
          (c.sectors_from.ensures ∙ (ap (drop c.args.first) (c.deref.ensures.value ∙ c.in_ok-tuple.ensures) ∙ p.behind)),
    )

pub returns-clause-rows : goal.returns-clause-rows
returns-clause-rows g c =
    let x = c.args.between.now ++ c.args.behind.now in
    let p = source_at c.args.t.now.legs c.args.first c.args.before.now x c.known.ensures.sound c.requires.before c.requires.block in
    is_source_of c.args.t.now c.args.first c.args.before.now c.args.between.now c.args.behind.now c.entries_at.result.now c.block_len-len.result c.known.ensures c.requires.before c.requires.block
    (c.entries_at.ensures ∙ ap (entries_at c.args.t.now.blocks) (c.deref-2.ensures.value ∙ c.in_ok-tuple.ensures))
    (c.block_len-len.ensures ∙ ap₂ block_size (c.legs_from.ensures ∙ ap (λ (ls : List LegValue). drop c.args.first ls) c.legs.ensures)
    (c.sectors_from.ensures ∙ (ap (drop c.args.first) (c.deref.ensures.value ∙ c.in_ok-tuple.ensures) ∙ p.behind)))
