use Rattle.std.proofs.Common.{rules, arith, ◌<◌, ◌+◌, ◌^◌, ap, get_or, lit<}
use Rattle.qn_block.proofs.Located.{value_read, read_stands}
use Rattle.qn_block.proofs.combiner.Combiner.value_of.Goals as goal

pub tuple_number-requires : goal.tuple_number-requires
tuple_number-requires g c =
    let r = value_read c.args.self.now c.index-index.result.now c.args.values.now c.legs-legs.result.now _ _ c.known.ensures c.index-index.ensures c.requires c.legs-legs.ensures c.placed.ensures.sectors c.placed.ensures.offsets in
    (lit< tt, (r.tuple, r.few))

pub offset_of-requires : goal.offset_of-requires
offset_of-requires g c =
    let r = value_read c.args.self.now c.index-index.result.now c.args.values.now c.legs-legs.result.now _ _ c.known.ensures c.index-index.ensures c.requires c.legs-legs.ensures c.placed.ensures.sectors c.placed.ensures.offsets in
    (lit< tt, (r.tuple, (r.inner, omega (arith, r.small))))

pub overflow_cast-result : goal.overflow_cast-result
overflow_cast-result g c =
    let r = value_read c.args.self.now c.index-index.result.now c.args.values.now c.legs-legs.result.now _ _ c.known.ensures c.index-index.ensures c.requires c.legs-legs.ensures c.placed.ensures.sectors c.placed.ensures.offsets in
    let small : c.offset_of.result < 2 ^ 32 = omega (arith, r.below, c.offset_of.ensures.value) in
    search rules

pub overflow_add-result : goal.overflow_add-result
overflow_add-result g c =
    let r = value_read c.args.self.now c.index-index.result.now c.args.values.now c.legs-legs.result.now _ _ c.known.ensures c.index-index.ensures c.requires c.legs-legs.ensures c.placed.ensures.sectors c.placed.ensures.offsets in
    let small : get_or c.index-index.result.now c.tuple_number.result 0 + c.offset_of.result < 2 ^ 32 = omega (arith, r.below, c.offset_of.ensures.value, ap (λ n. get_or c.index-index.result.now n 0) c.tuple_number.ensures.number) in
    search rules

pub returns : goal.returns
returns g c =
    let r = value_read c.args.self.now c.index-index.result.now c.args.values.now c.legs-legs.result.now _ _ c.known.ensures c.index-index.ensures c.requires c.legs-legs.ensures c.placed.ensures.sectors c.placed.ensures.offsets in
    read_stands c.args.self.now c.index-index.result.now c.args.values.now c.legs-legs.result.now _ _ c.tuple_number.result c.offset_of.result r c.tuple_number.ensures.number c.offset_of.ensures.value
