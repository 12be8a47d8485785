use Rattle.std.proofs.Common.{arith, refl, ◌≡◌, ◌∙◌, ◌-◌, ap, lit<}
use Rattle.qn_index.specs.Tuples.{admitted, turned}
use Rattle.qn_block.proofs.Fusing.{turn, turned_more, turned_all}
use Rattle.qn_block.proofs.starts.fused_parts.Goals as goal

pub add_starts-requires : goal.add_starts-requires
add_starts-requires g c =
    let fs = c.args.group.now in
    let ls = c.args.legs.now in
    let listed : c.deref.result.now ≡ admitted fs ls (turned fs c.args.dir c.index-charges-i.result) = c.deref.ensures.value ∙ (c.in_ok-tuples.ensures ∙ ap (admitted fs ls) c.turned_charge-net.ensures.value) in
    let t = turn fs ls c.args.dir c.args.charges.now c.loop-i.i c.index-charges-i.result c.deref.result.now c.loop-i.next c.known.ensures.group c.requires.charges c.requires.values c.requires.fluxes (omega arith) c.index-charges-i.is listed c.loop-i.invariant.next in
    (lit< tt, (t.tuples, t.fits))

pub loop-i-preserved : goal.loop-i-preserved
loop-i-preserved g c =
    let fs = c.args.group.now in
    let ls = c.args.legs.now in
    let listed : c.deref.result.now ≡ admitted fs ls (turned fs c.args.dir c.index-charges-i.result) = c.deref.ensures.value ∙ (c.in_ok-tuples.ensures ∙ ap (admitted fs ls) c.turned_charge-net.ensures.value) in
    let t = turn fs ls c.args.dir c.args.charges.now c.loop-i.i c.index-charges-i.result c.deref.result.now c.loop-i.next c.known.ensures.group c.requires.charges c.requires.values c.requires.fluxes (omega arith) c.index-charges-i.is listed c.loop-i.invariant.next in
    turned_more fs ls c.args.dir c.args.charges.now c.loop-i.i c.index-charges-i.result c.deref.result.now c.loop-i.next c.in_ok-next.next (c.in_ok-next.next - c.loop-i.next) c.loop-i.sectors.items c.push.new.self.items c.loop-i.starts.items c.add_starts.new.starts.items
    t (omega arith) c.index-charges-i.is c.loop-i.invariant c.in_ok-next.ensures.next refl c.in_ok-push.ensures.items c.in_ok-next.ensures.starts

pub returns-clause-sectors : goal.returns-clause-sectors
returns-clause-sectors g c = (turned_all c.args.group.now c.args.legs.now c.args.dir c.args.charges.now c.loop-i.i c.loop-i.next c.loop-i.sectors.items c.loop-i.starts.items c.requires.charges (omega arith) c.loop-i.invariant).0

pub returns-clause-starts : goal.returns-clause-starts
returns-clause-starts g c = (turned_all c.args.group.now c.args.legs.now c.args.dir c.args.charges.now c.loop-i.i c.loop-i.next c.loop-i.sectors.items c.loop-i.starts.items c.requires.charges (omega arith) c.loop-i.invariant).1
