use Rattle.std.proofs.Common.{rules, arith, ◌≡◌, ◌∙◌, ◌≤◌, ◌<◌, ◌-◌, ap, sym, subst, length, List, lit<, true}
use Rattle.qn_index.specs.Legs.{LegValue}
use Rattle.qn_index.specs.Tuples.{IsTuple}
use Rattle.qn_index.specs.Places.{block_size, values_at}
use Rattle.qn_index.proofs.Places.{values_in as place_in_range}
use Rattle.qn_block.specs.Combiners.{stands_at, fused_values}
use Rattle.qn_block.proofs.Rows.{same_from}
use Rattle.qn_block.proofs.Lookup.{values_length}
use Rattle.qn_block.proofs.TableEntries.{take_front}
use Rattle.qn_block.proofs.Located.{are_starts, is_found}
use Rattle.qn_block.proofs.combiner.Combiner.values_of.Goals as goal

pub last_start-requires-clause-some : goal.last_start-requires-clause-some
last_start-requires-clause-some g c = (are_starts c.args.self.now c.starts-starts.result.now c.args.value c.starts-starts.ensures c.requires).some

pub last_start-requires-clause-first : goal.last_start-requires-clause-first
last_start-requires-clause-first g c = (are_starts c.args.self.now c.starts-starts.result.now c.args.value c.starts-starts.ensures c.requires).first

pub last_start-requires-clause-ascending : goal.last_start-requires-clause-ascending
last_start-requires-clause-ascending g c = (are_starts c.args.self.now c.starts-starts.result.now c.args.value c.starts-starts.ensures c.requires).ascending

pub block_len-size-requires : goal.block_len-size-requires
block_len-size-requires g c =
    let f = is_found c.args.self.now c.starts-starts.result.now c.last_start.result c.args.value c.index-starts-last_start.result c.known.ensures c.starts-starts.ensures c.requires c.last_start.ensures.there c.last_start.ensures.upto c.last_start.ensures.after c.index-starts-last_start.is in
    let tuple : IsTuple c.legs-legs.result.now c.tuple-tuple.result.now = rw (c.legs-legs.ensures, c.tuple-tuple.ensures) f.tuple in
    let small : block_size c.legs-legs.result.now c.tuple-tuple.result.now ≤ 1048576 = rw (c.legs-legs.ensures, c.tuple-tuple.ensures) f.small in
    (lit< tt, (tuple, omega (arith, small)))

pub write_values-requires : goal.write_values-requires
write_values-requires g c =
    let f = is_found c.args.self.now c.starts-starts.result.now c.last_start.result c.args.value c.index-starts-last_start.result c.known.ensures c.starts-starts.ensures c.requires c.last_start.ensures.there c.last_start.ensures.upto c.last_start.ensures.after c.index-starts-last_start.is in
    let tuple : IsTuple c.legs-legs.result.now c.tuple-tuple.result.now = rw (c.legs-legs.ensures, c.tuple-tuple.ensures) f.tuple in
    let inner : c.args.value - c.index-starts-last_start.result.start < block_size c.legs-legs.result.now c.tuple-tuple.result.now = rw (c.legs-legs.ensures, c.tuple-tuple.ensures) f.inner in
    (lit< tt, (tuple, (c.block_len-size.ensures, (omega (arith, inner, c.block_len-size.ensures, c.from-place.ensures, c.start.ensures), search rules))))

pub returns : goal.returns
returns g c =
    let f = is_found c.args.self.now c.starts-starts.result.now c.last_start.result c.args.value c.index-starts-last_start.result c.known.ensures c.starts-starts.ensures c.requires c.last_start.ensures.there c.last_start.ensures.upto c.last_start.ensures.after c.index-starts-last_start.is in
    let written : c.write_values.new.values ≡ values_at c.args.self.now.legs c.index-starts-last_start.result.tuple (c.args.value - c.index-starts-last_start.result.start) =
    c.write_values.ensures ∙ (ap (λ (ls : List LegValue). values_at ls c.tuple-tuple.result.now c.from-place.result) c.legs-legs.ensures
    ∙ (ap (λ t. values_at c.args.self.now.legs t c.from-place.result) c.tuple-tuple.ensures ∙ ap (values_at c.args.self.now.legs c.index-starts-last_start.result.tuple) (c.from-place.ensures ∙ ap (λ n. c.args.value - n) c.start.ensures))) in
    let stands : stands_at (fused_values c.args.self.now.group c.args.self.now.legs c.args.self.now.arrow) c.args.value c.write_values.new.values ≡ true =
    f.stands c.write_values.new.values ∙ same_from _ _ (sym written) in
    let long : length c.write_values.new.values ≡ length c.args.self.now.legs = ap length written ∙ values_length c.args.self.now.legs _ (place_in_range c.args.self.now.legs c.index-starts-last_start.result.tuple (c.args.value - c.index-starts-last_start.result.start) f.tuple f.inner) in
    subst (λ vs. stands_at (fused_values c.args.self.now.group c.args.self.now.legs c.args.self.now.arrow) c.args.value vs ≡ true) (sym (take_front (length c.args.self.now.legs) c.write_values.new.values _ long)) stands
