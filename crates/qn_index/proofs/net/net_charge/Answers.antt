use Rattle.std.proofs.Common.{arith, ◌≡◌, ◌<◌, ◌≤◌, ◌^◌, ◌*◌, ◌+◌, ◌-◌, sym, subst, length, lit<, get_or}
use Rattle.qn_charge.specs.Laws.{within_sum, within_more}
use Rattle.qn_index.specs.Legs.{LegValue, IsLegOf}
use Rattle.qn_index.proofs.Nets.{IsNet, tuple_length, tuple_at, net_init, net_more}
use Rattle.qn_index.proofs.net.net_charge.Goals as goal

pub loop-i-init : goal.loop-i-init
loop-i-init g c = net_init c.args.group.now c.args.legs.now c.args.tuple.now c.zero-sum.result c.zero-sum.ensures.value c.zero-sum.ensures.canonical

pub bounds-tuple-i : goal.bounds-tuple-i
bounds-tuple-i g c = omega (arith, tuple_length c.args.legs.now c.args.tuple.now c.requires.tuple)

pub signed_charge-own-requires : goal.signed_charge-own-requires
signed_charge-own-requires g c =
    let lt : c.loop-i.i - 1 < length c.args.legs.now = omega arith in
    let in_range = tuple_at c.args.legs.now c.args.tuple.now (c.loop-i.i - 1) c.index-legs-i.result c.requires.tuple lt in
    (lit< tt, (lit< tt, (lit< tt, (subst (λ (l : LegValue). get_or c.args.tuple.now (c.loop-i.i - 1) 0 < length l.sectors) (sym c.index-legs-i.is) in_range, subst (IsLegOf c.args.group.now) (sym c.index-legs-i.is) (c.requires.group (c.loop-i.i - 1) c.index-legs-i.result lt)))))

pub add-sum-requires : goal.add-sum-requires
add-sum-requires g c =
    let n = length c.args.legs.now - c.loop-i.i in
    let bound : 1000000000 + 1000000000 * n ≤ 2 ^ 62 = omega arith in
    (lit< tt, (lit< tt, (c.signed_charge-own.ensures.canonical, (c.loop-i.invariant.canonical, within_more (1000000000 + 1000000000 * n) (2 ^ 62) c.args.group.now _ bound (within_sum 1000000000 (1000000000 * n) c.args.group.now c.signed_charge-own.result c.loop-i.sum c.signed_charge-own.ensures.within c.loop-i.invariant.within)))))

pub loop-i-preserved : goal.loop-i-preserved
loop-i-preserved g c =
    let lt : c.loop-i.i - 1 < length c.args.legs.now = omega arith in
    let back : c.loop-i.i ≡ c.loop-i.i - 1 + 1 = omega arith in
    net_more c.args.group.now c.args.legs.now c.args.tuple.now (c.loop-i.i - 1) c.index-legs-i.result c.signed_charge-own.result c.loop-i.sum c.add-sum.result c.requires.tuple lt (subst (λ k. IsNet c.args.group.now c.args.legs.now c.args.tuple.now k c.loop-i.sum) back c.loop-i.invariant) c.index-legs-i.is c.signed_charge-own.ensures.value c.signed_charge-own.ensures.within c.add-sum.ensures.value c.add-sum.ensures.canonical
