use Rattle.std.proofs.Common.{rules, arith, ◌≡◌, ◌∙◌, ◌≤◌, ◌<◌, ap, sym, subst, length, get_or, lit<}
use Rattle.qn_index.specs.Legs.{LegValue, flipped, total}
use Rattle.qn_block.specs.Combiners.{fused_leg, fused_sectors}
use Rattle.qn_block.proofs.TableEntries.{split_given, split_made}
use Rattle.qn_block.proofs.combiner.Combiner.split_entry.Goals as goal

pub slice_bounds-given-end : goal.slice_bounds-given-end
slice_bounds-given-end g c =
    let r = split_given c.args.self.now.legs (flipped (fused_leg c.args.self.now.group c.args.self.now.legs c.args.self.now.arrow)) c.args.values.now c.requires in
    let n : length c.legs-n.result.now ≡ length c.args.self.now.legs = ap length c.legs-n.ensures in
    let le : length c.legs-n.result.now ≤ length c.args.values.now = omega (arith, r.long, n) in
    search (rules, le)

pub bounds-values-n : goal.bounds-values-n
bounds-values-n g c =
    let r = split_given c.args.self.now.legs (flipped (fused_leg c.args.self.now.group c.args.self.now.legs c.args.self.now.arrow)) c.args.values.now c.requires in
    omega (arith, r.long, ap length c.legs-n.ensures)

pub values_of-found-requires : goal.values_of-found-requires
values_of-found-requires g c =
    let r = split_given c.args.self.now.legs (flipped (fused_leg c.args.self.now.group c.args.self.now.legs c.args.self.now.arrow)) c.args.values.now c.requires in
    let n : length c.legs-n.result.now ≡ length c.args.self.now.legs = ap length c.legs-n.ensures in
    (lit< tt, subst (λ k. get_or c.args.values.now k 0 < total (fused_sectors c.args.self.now.group c.args.self.now.legs c.args.self.now.arrow)) (sym n) r.below)

pub bounds-values-n-2 : goal.bounds-values-n-2
bounds-values-n-2 g c =
    let r = split_given c.args.self.now.legs (flipped (fused_leg c.args.self.now.group c.args.self.now.legs c.args.self.now.arrow)) c.args.values.now c.requires in
    omega (arith, r.long, ap length c.legs-n.ensures)

pub is_odd_inward-requires : goal.is_odd_inward-requires
is_odd_inward-requires g c =
    let r = split_given c.args.self.now.legs (flipped (fused_leg c.args.self.now.group c.args.self.now.legs c.args.self.now.arrow)) c.args.values.now c.requires in
    let n : length c.legs-n.result.now ≡ length c.args.self.now.legs = ap length c.legs-n.ensures in
    let below : get_or c.args.values.now (length c.legs-n.result.now) 0 < total (fused_sectors c.args.self.now.group c.args.self.now.legs c.args.self.now.arrow) =
    subst (λ k. get_or c.args.values.now k 0 < total (fused_sectors c.args.self.now.group c.args.self.now.legs c.args.self.now.arrow)) (sym n) r.below in
    (lit< tt, (lit< tt, subst (λ (f : LegValue). get_or c.args.values.now (length c.legs-n.result.now) 0 < total f.sectors) (sym c.fused.ensures) below))

pub returns : goal.returns
returns g c =
    c.matching.ensures
    ∙ split_made c.args.self.now.group c.group.result.now c.args.self.now.legs c.legs-n.result.now c.fused.result.now c.args.self.now.arrow c.args.values.now c.values_of-found.result c.same_values.result c.is_odd_inward.result
    c.requires c.group.ensures c.legs-n.ensures c.fused.ensures c.values_of-found.ensures c.same_values.ensures c.is_odd_inward.ensures
