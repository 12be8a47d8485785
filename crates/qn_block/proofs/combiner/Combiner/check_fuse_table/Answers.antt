use Rattle.std.proofs.Common.{◌∙◌, lit<}
use Rattle.std.specs.List.{All}
use Rattle.qn_index.specs.Legs.{IsLegOf}
use Rattle.qn_index.specs.Tuples.{IsFlux}
use Rattle.qn_block.specs.Tables.{fuse_tensor}
use Rattle.qn_block.proofs.TableRows.{fuse_is_tensor}
use Rattle.qn_block.proofs.TableEntries.{table_at, zero_flux}
use Rattle.qn_block.proofs.combiner.Combiner.check_fuse_table.Goals as goal

pub check_shape-requires : goal.check_shape-requires
check_shape-requires g c =
    let u = fuse_tensor c.args.self.now in
    let h = fuse_is_tensor c.args.self.now c.known.ensures in
    let legs = c.deref.ensures.value ∙ c.in_ok-legs.ensures in (
      lit< tt,
      (
        lit< tt,
        (
          lit< tt,
          (
            table_at (λ fs ls q. All (IsLegOf fs) ls) c.group-2.result.now c.group.result.now u.group c.deref.result.now u.legs c.zero-flux.result c.group-2.ensures c.group.ensures legs c.zero-flux.ensures.value h.charges,
            table_at (λ fs ls q. IsFlux fs q) c.group-2.result.now c.group.result.now u.group c.deref.result.now u.legs c.zero-flux.result c.group-2.ensures c.group.ensures legs c.zero-flux.ensures.value (zero_flux u h),
          ),
        ),
      ),
    )
