use Rattle.std.proofs.Common.{◌∙◌, ◌+◌, ap}
use Rattle.qn_index.specs.Legs.{LegValue, sector_at, before}
use Rattle.qn_block.proofs.Located.{turns}
use Rattle.qn_block.proofs.Matching.{starts_ascend}
use Rattle.qn_fuse.proofs.Starts.{part_is}
use Rattle.qn_fuse.proofs.lookup.starts_in.Goals as goal

pub count_before-low-requires : goal.count_before-low-requires
count_before-low-requires g c = starts_ascend c.args.c.now.legs (turns c.args.c.now.group c.args.c.now.legs c.args.c.now.arrow) c.starts-starts.result.now c.starts-starts.ensures

pub count_before-high-requires : goal.count_before-high-requires
count_before-high-requires g c = starts_ascend c.args.c.now.legs (turns c.args.c.now.group c.args.c.now.legs c.args.c.now.arrow) c.starts-starts.result.now c.starts-starts.ensures

pub returns : goal.returns
returns g c =
    let w = c.args.sector in
    let first = c.place_of-first.result in
    (part_is c.args.c.now c.starts-starts.result.now w first (first + c.dim_at.result) c.count_before-low.result c.count_before-high.result c.known.ensures c.starts-starts.ensures c.requires
    (c.place_of-first.ensures.place ∙ ap (λ (l : LegValue). before l.sectors w + 0) c.fused-fused.ensures)
    (ap (λ n. first + n) (c.dim_at.ensures ∙ ap (λ (l : LegValue). (sector_at l.sectors w).dim) c.fused-fused.ensures))
    c.count_before-low.ensures c.count_before-high.ensures).tuples
