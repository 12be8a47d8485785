use Rattle.std.proofs.Common.{arith, ◌∙◌, ◌<◌, ap, sym, subst, lit<, length}
use Rattle.qn_index.specs.Tuples.{IsTuple, count, net, turned}
use Rattle.qn_index.proofs.Nets.{tuple_length}
use Rattle.qn_index.proofs.Shapes.{nth_tuple, nth_is_tuple}
use Rattle.qn_block.proofs.Occurring.{net_is_flux}
use Rattle.qn_block.proofs.charges.charge_of.Goals as goal

pub net_charge-net-requires : goal.net_charge-net-requires
net_charge-net-requires g c =
    let below : c.args.n < count c.args.legs.now = omega (arith, c.requires.below, c.requires.total) in
    let tuple : IsTuple c.args.legs.now c.write_tuple.new.tuple = subst (IsTuple c.args.legs.now) (sym c.write_tuple.ensures) (nth_is_tuple c.args.legs.now c.args.n below) in
    (lit< tt, (lit< tt, (lit< tt, (omega (arith, c.requires.few), (c.requires.group, tuple)))))

pub turned_charge-requires : goal.turned_charge-requires
turned_charge-requires g c =
    (lit< tt, (lit< tt, net_is_flux c.args.group.now (length c.args.legs.now) c.net_charge-net.result c.requires.few c.net_charge-net.ensures.canonical c.net_charge-net.ensures.within))

pub returns-clause-charge : goal.returns-clause-charge
returns-clause-charge g c =
    c.turned_charge.ensures.value ∙ ap (turned c.args.group.now c.args.dir) (c.net_charge-net.ensures.value ∙ ap (net c.args.group.now c.args.legs.now) c.write_tuple.ensures)

pub returns-clause-long : goal.returns-clause-long
returns-clause-long g c =
    let below : c.args.n < count c.args.legs.now = omega (arith, c.requires.below, c.requires.total) in
    let long = tuple_length c.args.legs.now (nth_tuple c.args.legs.now c.args.n) (nth_is_tuple c.args.legs.now c.args.n below) in
    ap length c.write_tuple.ensures ∙ (long ∙ sym c.requires.long)
