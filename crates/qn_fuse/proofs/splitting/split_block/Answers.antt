use Rattle.std.proofs.Common.{rules, arith, ◌≡◌, ◌∙◌, ◌+◌, ◌++◌, ◌∷◌, List, length, take, drop, refl, ap, ap₂, sym, subst, lit<}
use Rattle.qn_index.specs.Legs.{LegValue, sector_at}
use Rattle.qn_index.specs.Tuples.{IsTuple}
use Rattle.qn_index.specs.Places.{block_size}
use Rattle.qn_block.specs.Combiners.{fused_sectors}
use Rattle.qn_fuse.specs.Pieces.{entries_at}
use Rattle.qn_fuse.proofs.Parts.{wide_of, cut_of, cutting, cutting_long, same_block, split_block_from, take_length, taken_tuple}
use Rattle.qn_fuse.proofs.splitting.split_block.Goals as goal

pub slice_bounds-before-end : goal.slice_bounds-before-end
slice_bounds-before-end g c =
    let C = c.args.c.now in
    let T = c.args.t.now in
    let at = c.args.at in
    let v = c.as_slice-sectors.result.now in
    let w = wide_of C at T c.args.tuple.now v c.as_slice-sectors.ensures c.known-2.ensures c.known.ensures c.requires.leg c.requires.tuple c.requires.small in
    sym (take_length at v w.within)

pub sectors_between-own-requires : goal.sectors_between-own-requires
sectors_between-own-requires g c =
    let C = c.args.c.now in
    let T = c.args.t.now in
    let at = c.args.at in
    let v = c.as_slice-sectors.result.now in
    let w = wide_of C at T c.args.tuple.now v c.as_slice-sectors.ensures c.known-2.ensures c.known.ensures c.requires.leg c.requires.tuple c.requires.small in
    omega (arith, w.end, ap (λ (ls : List LegValue). length ls) c.legs-count.ensures)

pub sectors_from-behind-requires : goal.sectors_from-behind-requires
sectors_from-behind-requires g c =
    let C = c.args.c.now in
    let T = c.args.t.now in
    let at = c.args.at in
    let v = c.as_slice-sectors.result.now in
    let w = wide_of C at T c.args.tuple.now v c.as_slice-sectors.ensures c.known-2.ensures c.known.ensures c.requires.leg c.requires.tuple c.requires.small in
    omega (arith, w.end, ap (λ (ls : List LegValue). length ls) c.legs-count.ensures)

pub place_in-requires : goal.place_in-requires
place_in-requires g c =
    let C = c.args.c.now in
    let T = c.args.t.now in
    let at = c.args.at in
    let v = c.as_slice-sectors.result.now in
    let w = wide_of C at T c.args.tuple.now v c.as_slice-sectors.ensures c.known-2.ensures c.known.ensures c.requires.leg c.requires.tuple c.requires.small in
    let own : c.sectors_between-own.result.now ≡ take (length C.legs) (drop at v) = c.sectors_between-own.ensures ∙ ap (λ (ls : List LegValue). take (length ls) (drop at v)) c.legs-count.ensures in
    (lit< tt, subst (IsTuple C.legs) (sym own) w.own)

pub block_len-rows-requires : goal.block_len-rows-requires
block_len-rows-requires g c =
    let C = c.args.c.now in
    let T = c.args.t.now in
    let at = c.args.at in
    let v = c.as_slice-sectors.result.now in
    let w = wide_of C at T c.args.tuple.now v c.as_slice-sectors.ensures c.known-2.ensures c.known.ensures c.requires.leg c.requires.tuple c.requires.small in
    (lit< tt, taken_tuple at T.legs c.legs-legs.result.now (take at v) c.legs-legs.ensures w.before w.before_small)

pub block_len-len-requires : goal.block_len-len-requires
block_len-len-requires g c =
    let C = c.args.c.now in
    let T = c.args.t.now in
    let at = c.args.at in
    let v = c.as_slice-sectors.result.now in
    let w = wide_of C at T c.args.tuple.now v c.as_slice-sectors.ensures c.known-2.ensures c.known.ensures c.requires.leg c.requires.tuple c.requires.small in
    let behind : c.sectors_from-behind.result.now ≡ drop (at + length C.legs) v = c.sectors_from-behind.ensures ∙ ap (λ (ls : List LegValue). drop (at + length ls) v) c.legs-count.ensures in
    let rest : c.legs_from.result.now ≡ drop (at + 1) T.legs = c.legs_from.ensures ∙ ap (λ (ls : List LegValue). drop (at + 1) ls) c.legs-legs.ensures in
    (lit< tt, same_block c.legs_from.result.now (drop (at + 1) T.legs) c.sectors_from-behind.result.now (drop (at + length C.legs) v) rest behind w.behind w.behind_small)

pub overflow_mul-width : goal.overflow_mul-width
overflow_mul-width g c =
    let C = c.args.c.now in
    let T = c.args.t.now in
    let at = c.args.at in
    let v = c.as_slice-sectors.result.now in
    let w = wide_of C at T c.args.tuple.now v c.as_slice-sectors.ensures c.known-2.ensures c.known.ensures c.requires.leg c.requires.tuple c.requires.small in
    let own : c.sectors_between-own.result.now ≡ take (length C.legs) (drop at v) = c.sectors_between-own.ensures ∙ ap (λ (ls : List LegValue). take (length ls) (drop at v)) c.legs-count.ensures in
    let behind : c.sectors_from-behind.result.now ≡ drop (at + length C.legs) v = c.sectors_from-behind.ensures ∙ ap (λ (ls : List LegValue). drop (at + length ls) v) c.legs-count.ensures in
    let rest : c.legs_from.result.now ≡ drop (at + 1) T.legs = c.legs_from.ensures ∙ ap (λ (ls : List LegValue). drop (at + 1) ls) c.legs-legs.ensures in
    let k = cut_of C at T c.args.tuple.now v c.sectors_between-own.result.now c.in_ok-sector.sector c.in_ok-sector.offset c.known-2.ensures c.known.ensures c.requires.group c.requires.leg c.requires.tuple c.requires.flux c.requires.small c.as_slice-sectors.ensures own c.in_ok-sector.ensures in
    let dim : c.dim_at.result ≡ (sector_at (fused_sectors C.group C.legs C.arrow) c.in_ok-sector.sector).dim = c.dim_at.ensures ∙ ap (λ (l : LegValue). (sector_at l.sectors c.in_ok-sector.sector).dim) c.fused.ensures in
    let len : c.block_len-len.result ≡ block_size (drop (at + 1) T.legs) (drop (at + length C.legs) v) = c.block_len-len.ensures ∙ ap₂ block_size rest behind in
    let rows : c.block_len-rows.result ≡ block_size (take at T.legs) (take at v) = c.block_len-rows.ensures ∙ ap (λ (ls : List LegValue). block_size (take at ls) (take at v)) c.legs-legs.ensures in
    let s = cutting C at T v c.in_ok-sector.sector c.in_ok-sector.offset c.dim_at.result c.block_len-len.result (block_size C.legs (take (length C.legs) (drop at v))) c.block_len-rows.result c.known.ensures w k dim len refl rows in
    let small = s.width_small in
    search rules

pub overflow_mul-start : goal.overflow_mul-start
overflow_mul-start g c =
    let C = c.args.c.now in
    let T = c.args.t.now in
    let at = c.args.at in
    let v = c.as_slice-sectors.result.now in
    let w = wide_of C at T c.args.tuple.now v c.as_slice-sectors.ensures c.known-2.ensures c.known.ensures c.requires.leg c.requires.tuple c.requires.small in
    let own : c.sectors_between-own.result.now ≡ take (length C.legs) (drop at v) = c.sectors_between-own.ensures ∙ ap (λ (ls : List LegValue). take (length ls) (drop at v)) c.legs-count.ensures in
    let behind : c.sectors_from-behind.result.now ≡ drop (at + length C.legs) v = c.sectors_from-behind.ensures ∙ ap (λ (ls : List LegValue). drop (at + length ls) v) c.legs-count.ensures in
    let rest : c.legs_from.result.now ≡ drop (at + 1) T.legs = c.legs_from.ensures ∙ ap (λ (ls : List LegValue). drop (at + 1) ls) c.legs-legs.ensures in
    let k = cut_of C at T c.args.tuple.now v c.sectors_between-own.result.now c.in_ok-sector.sector c.in_ok-sector.offset c.known-2.ensures c.known.ensures c.requires.group c.requires.leg c.requires.tuple c.requires.flux c.requires.small c.as_slice-sectors.ensures own c.in_ok-sector.ensures in
    let dim : c.dim_at.result ≡ (sector_at (fused_sectors C.group C.legs C.arrow) c.in_ok-sector.sector).dim = c.dim_at.ensures ∙ ap (λ (l : LegValue). (sector_at l.sectors c.in_ok-sector.sector).dim) c.fused.ensures in
    let len : c.block_len-len.result ≡ block_size (drop (at + 1) T.legs) (drop (at + length C.legs) v) = c.block_len-len.ensures ∙ ap₂ block_size rest behind in
    let rows : c.block_len-rows.result ≡ block_size (take at T.legs) (take at v) = c.block_len-rows.ensures ∙ ap (λ (ls : List LegValue). block_size (take at ls) (take at v)) c.legs-legs.ensures in
    let s = cutting C at T v c.in_ok-sector.sector c.in_ok-sector.offset c.dim_at.result c.block_len-len.result (block_size C.legs (take (length C.legs) (drop at v))) c.block_len-rows.result c.known.ensures w k dim len refl rows in
    let small = s.start_small in
    search rules

pub block_len-requires : goal.block_len-requires
block_len-requires g c =
    let C = c.args.c.now in
    let T = c.args.t.now in
    let at = c.args.at in
    let v = c.as_slice-sectors.result.now in
    let w = wide_of C at T c.args.tuple.now v c.as_slice-sectors.ensures c.known-2.ensures c.known.ensures c.requires.leg c.requires.tuple c.requires.small in
    let own : c.sectors_between-own.result.now ≡ take (length C.legs) (drop at v) = c.sectors_between-own.ensures ∙ ap (λ (ls : List LegValue). take (length ls) (drop at v)) c.legs-count.ensures in
    (lit< tt, same_block c.legs.result.now C.legs c.sectors_between-own.result.now (take (length C.legs) (drop at v)) c.legs.ensures own w.own w.own_small)

pub overflow_mul-own_len : goal.overflow_mul-own_len
overflow_mul-own_len g c =
    let C = c.args.c.now in
    let T = c.args.t.now in
    let at = c.args.at in
    let v = c.as_slice-sectors.result.now in
    let w = wide_of C at T c.args.tuple.now v c.as_slice-sectors.ensures c.known-2.ensures c.known.ensures c.requires.leg c.requires.tuple c.requires.small in
    let own : c.sectors_between-own.result.now ≡ take (length C.legs) (drop at v) = c.sectors_between-own.ensures ∙ ap (λ (ls : List LegValue). take (length ls) (drop at v)) c.legs-count.ensures in
    let behind : c.sectors_from-behind.result.now ≡ drop (at + length C.legs) v = c.sectors_from-behind.ensures ∙ ap (λ (ls : List LegValue). drop (at + length ls) v) c.legs-count.ensures in
    let rest : c.legs_from.result.now ≡ drop (at + 1) T.legs = c.legs_from.ensures ∙ ap (λ (ls : List LegValue). drop (at + 1) ls) c.legs-legs.ensures in
    let k = cut_of C at T c.args.tuple.now v c.sectors_between-own.result.now c.in_ok-sector.sector c.in_ok-sector.offset c.known-2.ensures c.known.ensures c.requires.group c.requires.leg c.requires.tuple c.requires.flux c.requires.small c.as_slice-sectors.ensures own c.in_ok-sector.ensures in
    let dim : c.dim_at.result ≡ (sector_at (fused_sectors C.group C.legs C.arrow) c.in_ok-sector.sector).dim = c.dim_at.ensures ∙ ap (λ (l : LegValue). (sector_at l.sectors c.in_ok-sector.sector).dim) c.fused.ensures in
    let len : c.block_len-len.result ≡ block_size (drop (at + 1) T.legs) (drop (at + length C.legs) v) = c.block_len-len.ensures ∙ ap₂ block_size rest behind in
    let rows : c.block_len-rows.result ≡ block_size (take at T.legs) (take at v) = c.block_len-rows.ensures ∙ ap (λ (ls : List LegValue). block_size (take at ls) (take at v)) c.legs-legs.ensures in
    let own_len : c.block_len.result ≡ block_size C.legs c.sectors_between-own.result.now = c.block_len.ensures ∙ ap (λ (ls : List LegValue). block_size ls c.sectors_between-own.result.now) c.legs.ensures in
    let s = cutting C at T v c.in_ok-sector.sector c.in_ok-sector.offset c.dim_at.result c.block_len-len.result c.block_len.result c.block_len-rows.result c.known.ensures w k dim len (own_len ∙ ap (block_size C.legs) own) rows in
    let small = s.own_small in
    search rules

pub cut_rows-requires-clause-within : goal.cut_rows-requires-clause-within
cut_rows-requires-clause-within g c =
    let C = c.args.c.now in
    let T = c.args.t.now in
    let at = c.args.at in
    let v = c.as_slice-sectors.result.now in
    let w = wide_of C at T c.args.tuple.now v c.as_slice-sectors.ensures c.known-2.ensures c.known.ensures c.requires.leg c.requires.tuple c.requires.small in
    let own : c.sectors_between-own.result.now ≡ take (length C.legs) (drop at v) = c.sectors_between-own.ensures ∙ ap (λ (ls : List LegValue). take (length ls) (drop at v)) c.legs-count.ensures in
    let behind : c.sectors_from-behind.result.now ≡ drop (at + length C.legs) v = c.sectors_from-behind.ensures ∙ ap (λ (ls : List LegValue). drop (at + length ls) v) c.legs-count.ensures in
    let rest : c.legs_from.result.now ≡ drop (at + 1) T.legs = c.legs_from.ensures ∙ ap (λ (ls : List LegValue). drop (at + 1) ls) c.legs-legs.ensures in
    let k = cut_of C at T c.args.tuple.now v c.sectors_between-own.result.now c.in_ok-sector.sector c.in_ok-sector.offset c.known-2.ensures c.known.ensures c.requires.group c.requires.leg c.requires.tuple c.requires.flux c.requires.small c.as_slice-sectors.ensures own c.in_ok-sector.ensures in
    let dim : c.dim_at.result ≡ (sector_at (fused_sectors C.group C.legs C.arrow) c.in_ok-sector.sector).dim = c.dim_at.ensures ∙ ap (λ (l : LegValue). (sector_at l.sectors c.in_ok-sector.sector).dim) c.fused.ensures in
    let len : c.block_len-len.result ≡ block_size (drop (at + 1) T.legs) (drop (at + length C.legs) v) = c.block_len-len.ensures ∙ ap₂ block_size rest behind in
    let rows : c.block_len-rows.result ≡ block_size (take at T.legs) (take at v) = c.block_len-rows.ensures ∙ ap (λ (ls : List LegValue). block_size (take at ls) (take at v)) c.legs-legs.ensures in
    let own_len : c.block_len.result ≡ block_size C.legs c.sectors_between-own.result.now = c.block_len.ensures ∙ ap (λ (ls : List LegValue). block_size ls c.sectors_between-own.result.now) c.legs.ensures in
    let s = cutting C at T v c.in_ok-sector.sector c.in_ok-sector.offset c.dim_at.result c.block_len-len.result c.block_len.result c.block_len-rows.result c.known.ensures w k dim len (own_len ∙ ap (block_size C.legs) own) rows in
    s.within

pub cut_rows-requires-clause-small : goal.cut_rows-requires-clause-small
cut_rows-requires-clause-small g c =
    let C = c.args.c.now in
    let T = c.args.t.now in
    let at = c.args.at in
    let v = c.as_slice-sectors.result.now in
    let w = wide_of C at T c.args.tuple.now v c.as_slice-sectors.ensures c.known-2.ensures c.known.ensures c.requires.leg c.requires.tuple c.requires.small in
    let own : c.sectors_between-own.result.now ≡ take (length C.legs) (drop at v) = c.sectors_between-own.ensures ∙ ap (λ (ls : List LegValue). take (length ls) (drop at v)) c.legs-count.ensures in
    let behind : c.sectors_from-behind.result.now ≡ drop (at + length C.legs) v = c.sectors_from-behind.ensures ∙ ap (λ (ls : List LegValue). drop (at + length ls) v) c.legs-count.ensures in
    let rest : c.legs_from.result.now ≡ drop (at + 1) T.legs = c.legs_from.ensures ∙ ap (λ (ls : List LegValue). drop (at + 1) ls) c.legs-legs.ensures in
    let k = cut_of C at T c.args.tuple.now v c.sectors_between-own.result.now c.in_ok-sector.sector c.in_ok-sector.offset c.known-2.ensures c.known.ensures c.requires.group c.requires.leg c.requires.tuple c.requires.flux c.requires.small c.as_slice-sectors.ensures own c.in_ok-sector.ensures in
    let dim : c.dim_at.result ≡ (sector_at (fused_sectors C.group C.legs C.arrow) c.in_ok-sector.sector).dim = c.dim_at.ensures ∙ ap (λ (l : LegValue). (sector_at l.sectors c.in_ok-sector.sector).dim) c.fused.ensures in
    let len : c.block_len-len.result ≡ block_size (drop (at + 1) T.legs) (drop (at + length C.legs) v) = c.block_len-len.ensures ∙ ap₂ block_size rest behind in
    let rows : c.block_len-rows.result ≡ block_size (take at T.legs) (take at v) = c.block_len-rows.ensures ∙ ap (λ (ls : List LegValue). block_size (take at ls) (take at v)) c.legs-legs.ensures in
    let own_len : c.block_len.result ≡ block_size C.legs c.sectors_between-own.result.now = c.block_len.ensures ∙ ap (λ (ls : List LegValue). block_size ls c.sectors_between-own.result.now) c.legs.ensures in
    let s = cutting C at T v c.in_ok-sector.sector c.in_ok-sector.offset c.dim_at.result c.block_len-len.result c.block_len.result c.block_len-rows.result c.known.ensures w k dim len (own_len ∙ ap (block_size C.legs) own) rows in
    s.small

pub cut_rows-requires-clause-long : goal.cut_rows-requires-clause-long
cut_rows-requires-clause-long g c =
    let C = c.args.c.now in
    let T = c.args.t.now in
    let at = c.args.at in
    let v = c.as_slice-sectors.result.now in
    let w = wide_of C at T c.args.tuple.now v c.as_slice-sectors.ensures c.known-2.ensures c.known.ensures c.requires.leg c.requires.tuple c.requires.small in
    let own : c.sectors_between-own.result.now ≡ take (length C.legs) (drop at v) = c.sectors_between-own.ensures ∙ ap (λ (ls : List LegValue). take (length ls) (drop at v)) c.legs-count.ensures in
    let behind : c.sectors_from-behind.result.now ≡ drop (at + length C.legs) v = c.sectors_from-behind.ensures ∙ ap (λ (ls : List LegValue). drop (at + length ls) v) c.legs-count.ensures in
    let rest : c.legs_from.result.now ≡ drop (at + 1) T.legs = c.legs_from.ensures ∙ ap (λ (ls : List LegValue). drop (at + 1) ls) c.legs-legs.ensures in
    let k = cut_of C at T c.args.tuple.now v c.sectors_between-own.result.now c.in_ok-sector.sector c.in_ok-sector.offset c.known-2.ensures c.known.ensures c.requires.group c.requires.leg c.requires.tuple c.requires.flux c.requires.small c.as_slice-sectors.ensures own c.in_ok-sector.ensures in
    let dim : c.dim_at.result ≡ (sector_at (fused_sectors C.group C.legs C.arrow) c.in_ok-sector.sector).dim = c.dim_at.ensures ∙ ap (λ (l : LegValue). (sector_at l.sectors c.in_ok-sector.sector).dim) c.fused.ensures in
    let len : c.block_len-len.result ≡ block_size (drop (at + 1) T.legs) (drop (at + length C.legs) v) = c.block_len-len.ensures ∙ ap₂ block_size rest behind in
    let rows : c.block_len-rows.result ≡ block_size (take at T.legs) (take at v) = c.block_len-rows.ensures ∙ ap (λ (ls : List LegValue). block_size (take at ls) (take at v)) c.legs-legs.ensures in
    let source : c.entries_at.result.now ≡ entries_at T.blocks (take at v ++ (c.in_ok-sector.sector ∷ drop (at + length C.legs) v)) =
    c.entries_at.ensures ∙ ap (entries_at T.blocks) (c.deref.ensures.value ∙ (c.in_ok-source.ensures ∙ ap (λ b. take at v ++ (c.in_ok-sector.sector ∷ b)) behind)) in
    cutting_long C at T v c.in_ok-sector.sector c.in_ok-sector.offset c.dim_at.result c.block_len-len.result c.block_len-rows.result c.entries_at.result.now k dim len rows source

pub returns-clause-full : goal.returns-clause-full
returns-clause-full g c =
    let C = c.args.c.now in
    let T = c.args.t.now in
    let at = c.args.at in
    let v = c.as_slice-sectors.result.now in
    let w = wide_of C at T c.args.tuple.now v c.as_slice-sectors.ensures c.known-2.ensures c.known.ensures c.requires.leg c.requires.tuple c.requires.small in
    let own : c.sectors_between-own.result.now ≡ take (length C.legs) (drop at v) = c.sectors_between-own.ensures ∙ ap (λ (ls : List LegValue). take (length ls) (drop at v)) c.legs-count.ensures in
    let behind : c.sectors_from-behind.result.now ≡ drop (at + length C.legs) v = c.sectors_from-behind.ensures ∙ ap (λ (ls : List LegValue). drop (at + length ls) v) c.legs-count.ensures in
    let rest : c.legs_from.result.now ≡ drop (at + 1) T.legs = c.legs_from.ensures ∙ ap (λ (ls : List LegValue). drop (at + 1) ls) c.legs-legs.ensures in
    let k = cut_of C at T c.args.tuple.now v c.sectors_between-own.result.now c.in_ok-sector.sector c.in_ok-sector.offset c.known-2.ensures c.known.ensures c.requires.group c.requires.leg c.requires.tuple c.requires.flux c.requires.small c.as_slice-sectors.ensures own c.in_ok-sector.ensures in
    let dim : c.dim_at.result ≡ (sector_at (fused_sectors C.group C.legs C.arrow) c.in_ok-sector.sector).dim = c.dim_at.ensures ∙ ap (λ (l : LegValue). (sector_at l.sectors c.in_ok-sector.sector).dim) c.fused.ensures in
    let len : c.block_len-len.result ≡ block_size (drop (at + 1) T.legs) (drop (at + length C.legs) v) = c.block_len-len.ensures ∙ ap₂ block_size rest behind in
    let rows : c.block_len-rows.result ≡ block_size (take at T.legs) (take at v) = c.block_len-rows.ensures ∙ ap (λ (ls : List LegValue). block_size (take at ls) (take at v)) c.legs-legs.ensures in
    let own_len : c.block_len.result ≡ block_size C.legs c.sectors_between-own.result.now = c.block_len.ensures ∙ ap (λ (ls : List LegValue). block_size ls c.sectors_between-own.result.now) c.legs.ensures in
    let source : c.entries_at.result.now ≡ entries_at T.blocks (take at v ++ (c.in_ok-sector.sector ∷ drop (at + length C.legs) v)) =
    c.entries_at.ensures ∙ ap (entries_at T.blocks) (c.deref.ensures.value ∙ (c.in_ok-source.ensures ∙ ap (λ b. take at v ++ (c.in_ok-sector.sector ∷ b)) behind)) in
    (split_block_from C at T c.args.tuple.now v c.sectors_between-own.result.now c.in_ok-sector.sector c.in_ok-sector.offset c.dim_at.result c.block_len-len.result c.block_len.result c.block_len-rows.result
    c.in_ok-entries.entries.items c.entries_at.result.now c.known-2.ensures c.known.ensures c.requires.group c.requires.leg c.requires.tuple c.requires.flux c.requires.small c.as_slice-sectors.ensures own
    c.in_ok-sector.ensures dim len own_len rows source c.in_ok-entries.ensures).full

pub returns-clause-entries : goal.returns-clause-entries
returns-clause-entries g c =
    let C = c.args.c.now in
    let T = c.args.t.now in
    let at = c.args.at in
    let v = c.as_slice-sectors.result.now in
    let w = wide_of C at T c.args.tuple.now v c.as_slice-sectors.ensures c.known-2.ensures c.known.ensures c.requires.leg c.requires.tuple c.requires.small in
    let own : c.sectors_between-own.result.now ≡ take (length C.legs) (drop at v) = c.sectors_between-own.ensures ∙ ap (λ (ls : List LegValue). take (length ls) (drop at v)) c.legs-count.ensures in
    let behind : c.sectors_from-behind.result.now ≡ drop (at + length C.legs) v = c.sectors_from-behind.ensures ∙ ap (λ (ls : List LegValue). drop (at + length ls) v) c.legs-count.ensures in
    let rest : c.legs_from.result.now ≡ drop (at + 1) T.legs = c.legs_from.ensures ∙ ap (λ (ls : List LegValue). drop (at + 1) ls) c.legs-legs.ensures in
    let k = cut_of C at T c.args.tuple.now v c.sectors_between-own.result.now c.in_ok-sector.sector c.in_ok-sector.offset c.known-2.ensures c.known.ensures c.requires.group c.requires.leg c.requires.tuple c.requires.flux c.requires.small c.as_slice-sectors.ensures own c.in_ok-sector.ensures in
    let dim : c.dim_at.result ≡ (sector_at (fused_sectors C.group C.legs C.arrow) c.in_ok-sector.sector).dim = c.dim_at.ensures ∙ ap (λ (l : LegValue). (sector_at l.sectors c.in_ok-sector.sector).dim) c.fused.ensures in
    let len : c.block_len-len.result ≡ block_size (drop (at + 1) T.legs) (drop (at + length C.legs) v) = c.block_len-len.ensures ∙ ap₂ block_size rest behind in
    let rows : c.block_len-rows.result ≡ block_size (take at T.legs) (take at v) = c.block_len-rows.ensures ∙ ap (λ (ls : List LegValue). block_size (take at ls) (take at v)) c.legs-legs.ensures in
    let own_len : c.block_len.result ≡ block_size C.legs c.sectors_between-own.result.now = c.block_len.ensures ∙ ap (λ (ls : List LegValue). block_size ls c.sectors_between-own.result.now) c.legs.ensures in
    let source : c.entries_at.result.now ≡ entries_at T.blocks (take at v ++ (c.in_ok-sector.sector ∷ drop (at + length C.legs) v)) =
    c.entries_at.ensures ∙ ap (entries_at T.blocks) (c.deref.ensures.value ∙ (c.in_ok-source.ensures ∙ ap (λ b. take at v ++ (c.in_ok-sector.sector ∷ b)) behind)) in
    (split_block_from C at T c.args.tuple.now v c.sectors_between-own.result.now c.in_ok-sector.sector c.in_ok-sector.offset c.dim_at.result c.block_len-len.result c.block_len.result c.block_len-rows.result
    c.in_ok-entries.entries.items c.entries_at.result.now c.known-2.ensures c.known.ensures c.requires.group c.requires.leg c.requires.tuple c.requires.flux c.requires.small c.as_slice-sectors.ensures own
    c.in_ok-sector.ensures dim len own_len rows source c.in_ok-entries.ensures).entries
