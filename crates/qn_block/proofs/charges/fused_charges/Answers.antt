use Rattle.std.proofs.Common.{arith, refl, ◌≡◌, ◌∙◌, ◌-◌, ap, sym, subst, length, map, drop, [], ◌++◌}
use Rattle.std.proofs.lemmas.List.{length-take, length-append, length-drop}
use Rattle.std.specs.List.{All}
use Rattle.std.proofs.lemmas.List.Elements.{All-nil}
use Rattle.qn_index.specs.Tuples.{IsFlux, tuples, count}
use Rattle.qn_index.proofs.Shapes.{nth_tuple}
use Rattle.qn_block.specs.Combiners.{fused_charge, ascending_once}
use Rattle.qn_block.proofs.Occurring.{put_all, fewer_later, none_left, charges_back}
use Rattle.qn_block.proofs.charges.fused_charges.Goals as goal

pub loop-n-init : goal.loop-n-init
loop-n-init g c =
    let fs = c.args.group.now in
    let ls = c.args.legs.now in
    let total : c.count_tuples-total.result ≡ count ls = omega (arith, c.count_tuples-total.ensures, c.requires.count) in
    let none : c.new-charges.result.items ≡ [] = c.new-charges.ensures.items in
    record {
      long = omega (arith, c.in_ok-tuple.ensures.len);
      few = omega (arith, ap length none);
      charges = none ∙ ap (λ ts. ascending_once (map (fused_charge fs ls c.args.dir) ts)) (sym (none_left ls c.count_tuples-total.result total));
      fluxes = subst (All (IsFlux fs)) (sym none) (All-nil (IsFlux fs));
    }

pub returns-then-len-gt-MAX_SECTORS-clause-err : goal.returns-then-len-gt-MAX_SECTORS-clause-err
returns-then-len-gt-MAX_SECTORS-clause-err g c =
    let fs = c.args.group.now in
    let ls = c.args.legs.now in
    let i = c.loop-n.n - 1 in
    let total : c.count_tuples-total.result ≡ count ls = omega (arith, c.count_tuples-total.ensures, c.requires.count) in
    let new = charges_back fs ls c.args.dir c.loop-n.n i (nth_tuple ls i) c.charge_of-charge.result c.loop-n.charges.items c.put_charge.new.charges.items (omega arith) (omega (arith, total, c.loop-n.auto.n)) refl c.charge_of-charge.ensures.charge c.loop-n.invariant.charges c.in_ok-put_charge.ensures in
    omega (arith, ap length new, fewer_later (fused_charge fs ls c.args.dir) (tuples ls) i)

pub loop-n-preserved : goal.loop-n-preserved
loop-n-preserved g c =
    let fs = c.args.group.now in
    let ls = c.args.legs.now in
    let i = c.loop-n.n - 1 in
    let total : c.count_tuples-total.result ≡ count ls = omega (arith, c.count_tuples-total.ensures, c.requires.count) in
    record {
      long = omega (arith, length-take c.loop-n.tuple.len (c.charge_of-charge.new.tuple ++ drop (length c.charge_of-charge.new.tuple) c.loop-n.tuple.items), length-append c.charge_of-charge.new.tuple (drop (length c.charge_of-charge.new.tuple) c.loop-n.tuple.items), length-drop (length c.charge_of-charge.new.tuple) c.loop-n.tuple.items, c.charge_of-charge.ensures.long, c.deref_mut.ensures.len, ap length c.deref_mut.ensures.value, c.loop-n.invariant.long);
      few = omega arith;
      charges = charges_back fs ls c.args.dir c.loop-n.n i (nth_tuple ls i) c.charge_of-charge.result c.loop-n.charges.items c.put_charge.new.charges.items (omega arith) (omega (arith, total, c.loop-n.auto.n)) refl c.charge_of-charge.ensures.charge c.loop-n.invariant.charges c.in_ok-put_charge.ensures;
      fluxes = subst (All (IsFlux fs)) (sym c.in_ok-put_charge.ensures) (put_all (IsFlux fs) c.charge_of-charge.result c.loop-n.charges.items c.charge_of-charge.ensures.flux c.loop-n.invariant.fluxes);
    }
