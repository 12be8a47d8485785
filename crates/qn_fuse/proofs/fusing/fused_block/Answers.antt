use Rattle.std.proofs.Common.{rules, arith, ◌++◌, ◌+◌, get_or, sym, subst, take, drop, lit<}
use Rattle.qn_fuse.specs.Fused.{fused_at}
use Rattle.qn_fuse.specs.Pieces.{IsBlockAt, tuples_in}
use Rattle.qn_fuse.proofs.Parts.{narrow_at, blocks_behind, each_start, taken_tuple, fused_block_from}
use Rattle.qn_fuse.proofs.fusing.fused_block.Goals as goal

pub slice_bounds-before-end : goal.slice_bounds-before-end
slice_bounds-before-end g c =
    let v = c.as_slice-sectors.result.now in
    let n = narrow_at c.args.c.now c.args.first c.args.t.now v c.known-2.ensures c.known.ensures c.requires.legs (subst (IsBlockAt (fused_at c.args.c.now c.args.first c.args.t.now.legs)) (sym c.as_slice-sectors.ensures) c.requires.tuple) in
    sym n.prefix

pub overflow_add-first : goal.overflow_add-first
overflow_add-first g c =
    let v = c.as_slice-sectors.result.now in
    let n = narrow_at c.args.c.now c.args.first c.args.t.now v c.known-2.ensures c.known.ensures c.requires.legs (subst (IsBlockAt (fused_at c.args.c.now c.args.first c.args.t.now.legs)) (sym c.as_slice-sectors.ensures) c.requires.tuple) in
    let there = n.there in
    search rules

pub sectors_from-behind-requires : goal.sectors_from-behind-requires
sectors_from-behind-requires g c =
    let v = c.as_slice-sectors.result.now in
    let n = narrow_at c.args.c.now c.args.first c.args.t.now v c.known-2.ensures c.known.ensures c.requires.legs (subst (IsBlockAt (fused_at c.args.c.now c.args.first c.args.t.now.legs)) (sym c.as_slice-sectors.ensures) c.requires.tuple) in
    let there = n.there in
    omega arith

pub offset_bounds-sectors-first : goal.offset_bounds-sectors-first
offset_bounds-sectors-first g c =
    let v = c.as_slice-sectors.result.now in
    let n = narrow_at c.args.c.now c.args.first c.args.t.now v c.known-2.ensures c.known.ensures c.requires.legs (subst (IsBlockAt (fused_at c.args.c.now c.args.first c.args.t.now.legs)) (sym c.as_slice-sectors.ensures) c.requires.tuple) in
    let there = n.there in
    search rules

pub bounds-sectors-first : goal.bounds-sectors-first
bounds-sectors-first g c =
    let v = c.as_slice-sectors.result.now in
    (narrow_at c.args.c.now c.args.first c.args.t.now v c.known-2.ensures c.known.ensures c.requires.legs (subst (IsBlockAt (fused_at c.args.c.now c.args.first c.args.t.now.legs)) (sym c.as_slice-sectors.ensures) c.requires.tuple)).there

pub starts_in-starts-requires : goal.starts_in-starts-requires
starts_in-starts-requires g c =
    let v = c.as_slice-sectors.result.now in
    (lit< tt, (narrow_at c.args.c.now c.args.first c.args.t.now v c.known-2.ensures c.known.ensures c.requires.legs (subst (IsBlockAt (fused_at c.args.c.now c.args.first c.args.t.now.legs)) (sym c.as_slice-sectors.ensures) c.requires.tuple)).sector)

pub sources_of-requires : goal.sources_of-requires
sources_of-requires g c =
    let v = c.as_slice-sectors.result.now in
    let first = c.args.first in
    let n = narrow_at c.args.c.now first c.args.t.now v c.known-2.ensures c.known.ensures c.requires.legs (subst (IsBlockAt (fused_at c.args.c.now first c.args.t.now.legs)) (sym c.as_slice-sectors.ensures) c.requires.tuple) in (
      lit< tt,
      (
        n.prefix,
        λ k d lt. each_start (λ s. IsBlockAt c.args.t.now.legs (take first v ++ (s ++ c.sectors_from-behind.result.now))) c.starts_in-starts.result.now (tuples_in c.args.c.now (get_or v first 0)) c.starts_in-starts.ensures
            (blocks_behind c.args.t.now.legs (take first v) c.sectors_from-behind.result.now (drop (first + 1) v) (tuples_in c.args.c.now (get_or v first 0)) c.sectors_from-behind.ensures n.blocks) k d lt,
      ),
    )

pub block_len-rows-requires : goal.block_len-rows-requires
block_len-rows-requires g c =
    let v = c.as_slice-sectors.result.now in
    let n = narrow_at c.args.c.now c.args.first c.args.t.now v c.known-2.ensures c.known.ensures c.requires.legs (subst (IsBlockAt (fused_at c.args.c.now c.args.first c.args.t.now.legs)) (sym c.as_slice-sectors.ensures) c.requires.tuple) in
    (lit< tt, taken_tuple c.args.first c.args.t.now.legs c.legs.result.now (take c.args.first v) c.legs.ensures n.tuple n.small)

pub returns-clause-full : goal.returns-clause-full
returns-clause-full g c =
    (fused_block_from c.args.c.now c.args.first c.args.t.now c.args.tuple.now c.as_slice-sectors.result.now c.sectors_from-behind.result.now c.starts_in-starts.result.now c.in_ok-sources.sources.items c.deref.result.now
    c.legs.result.now c.block_len-rows.result c.in_ok-entries.entries.items c.known-2.ensures c.known.ensures c.requires.legs c.requires.tuple c.as_slice-sectors.ensures c.sectors_from-behind.ensures
    c.starts_in-starts.ensures c.in_ok-sources.ensures.value c.deref.ensures.value c.legs.ensures c.block_len-rows.ensures c.in_ok-entries.ensures).full

pub returns-clause-entries : goal.returns-clause-entries
returns-clause-entries g c =
    (fused_block_from c.args.c.now c.args.first c.args.t.now c.args.tuple.now c.as_slice-sectors.result.now c.sectors_from-behind.result.now c.starts_in-starts.result.now c.in_ok-sources.sources.items c.deref.result.now
    c.legs.result.now c.block_len-rows.result c.in_ok-entries.entries.items c.known-2.ensures c.known.ensures c.requires.legs c.requires.tuple c.as_slice-sectors.ensures c.sectors_from-behind.ensures
    c.starts_in-starts.ensures c.in_ok-sources.ensures.value c.deref.ensures.value c.legs.ensures c.block_len-rows.ensures c.in_ok-entries.ensures).entries
