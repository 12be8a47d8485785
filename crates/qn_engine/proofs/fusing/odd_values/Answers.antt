use Rattle.std.proofs.Common.{◌<◌, ◌++◌, arith, sym, ◌∙◌, ap, subst, length, false, lit<}
use Rattle.std.proofs.lemmas.List.{length-append}
use Rattle.qn_index.specs.Legs.{total, parity_at}
use Rattle.qn_value.specs.Local.{parities}
use Rattle.qn_block.proofs.Lookup.{values_length, value_at}
use Rattle.qn_engine.proofs.FusedArrays.{filled_more, filled_all, parities_long, parity_is}
use Rattle.qn_engine.proofs.fusing.odd_values.Goals as goal

pub value_in-requires : goal.value_in-requires
value_in-requires g c =
    omega (arith, c.loop-i-test.true, values_length c.args.legs.now (c.args.first.now ++ c.args.second.now) c.requires.values, length-append c.args.first.now c.args.second.now)

pub is_odd-requires : goal.is_odd-requires
is_odd-requires g c = (
  lit< tt,
  (lit< tt, subst (λ n. n < total c.index-legs-i.result.sectors) (sym c.value_in.ensures) (value_at c.args.legs.now (c.args.first.now ++ c.args.second.now) c.loop-i.i c.index-legs-i.result c.requires.values c.loop-i-test.true c.index-legs-i.is)),
)

pub loop-i-preserved : goal.loop-i-preserved
loop-i-preserved g c =
    let xs = c.args.first.now ++ c.args.second.now in
    filled_more false 128 c.loop-i.i c.is_odd.result c.loop-i.odds (parities c.args.group.now c.args.legs.now xs) (omega (arith, c.requires.few, c.loop-i-test.true))
    (omega (arith, c.loop-i-test.true, parities_long c.args.group.now c.args.legs.now xs c.requires.values))
    (parity_is c.args.group.now c.args.legs.now xs c.loop-i.i c.index-legs-i.result c.requires.values c.loop-i-test.true c.index-legs-i.is
    ∙ ap (parity_at c.args.group.now c.index-legs-i.result.sectors) (sym c.value_in.ensures) ∙ sym c.is_odd.ensures) c.loop-i.invariant

pub returns : goal.returns
returns g c =
    let xs = c.args.first.now ++ c.args.second.now in
    filled_all 128 (length c.args.legs.now) c.loop-i.i c.loop-i.odds (parities c.args.group.now c.args.legs.now xs) (omega arith) (parities_long c.args.group.now c.args.legs.now xs c.requires.values) c.loop-i.invariant
