use Rattle.std.proofs.Common.{rules, arith, ◌≡◌, ◌++◌, ◌∷◌, ◌<◌, [], ap, subst, sym, length, lit<, get_or}
use Rattle.qn_index.specs.Legs.{LegValue, IsSound, no_sector}
use Rattle.qn_index.proofs.Nets.{tuple_length, tuple_at}
use Rattle.qn_fuse.proofs.Starts.{first_more, first_all}
use Rattle.qn_fuse.proofs.lookup.first_values.Goals as goal

pub bounds-tuple-i : goal.bounds-tuple-i
bounds-tuple-i g c = omega (arith, tuple_length c.args.legs.now c.args.tuple.now c.requires)

pub place_of-requires : goal.place_of-requires
place_of-requires g c =
    let in_range = tuple_at c.args.legs.now c.args.tuple.now c.loop-i.i c.index-legs-i.result c.requires (omega arith) in
    let sectors = ap (λ (l : LegValue). length l.sectors) c.index-legs-i.is in
    let below : get_or c.args.tuple.now c.loop-i.i 0 < length c.index-legs-i.result.sectors = omega (arith, in_range, sectors) in
    let sound : IsSound c.index-legs-i.result = subst IsSound (sym c.index-legs-i.is) (c.known_all.ensures c.loop-i.i c.index-legs-i.result (omega arith)) in
    (lit< tt, (below, (sound.dims (get_or c.args.tuple.now c.loop-i.i 0) no_sector below).0))

pub loop-i-preserved : goal.loop-i-preserved
loop-i-preserved g c =
    let pushed : c.push.new.self.items ≡ c.loop-i.values.items ++ c.place_of.result ∷ [] = search rules in
    first_more c.args.legs.now c.args.tuple.now c.loop-i.i c.index-legs-i.result c.place_of.result c.loop-i.values.items c.push.new.self.items c.known_all.ensures c.requires (omega arith)
    c.index-legs-i.is c.place_of.ensures.place c.loop-i.invariant pushed

pub returns : goal.returns
returns g c = first_all c.args.legs.now c.args.tuple.now c.loop-i.i c.loop-i.values.items c.requires (omega arith) c.loop-i.invariant
