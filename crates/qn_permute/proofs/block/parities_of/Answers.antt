use Rattle.std.proofs.Common.{arith, ◌≡◌, ◌∙◌, ◌<◌, ◌++◌, ◌∷◌, [], ap, sym, length, lit<, get_or, false}
use Rattle.std.proofs.lemmas.List.{take_more, take_all}
use Rattle.qn_charge.specs.Charges.{parity}
use Rattle.qn_index.specs.Legs.{LegValue, sector_at}
use Rattle.qn_index.proofs.Nets.{tuple_length, tuple_at}
use Rattle.qn_permute.specs.Moved.{sector_parities}
use Rattle.qn_permute.proofs.Moves.{parities_length, parity_there}
use Rattle.qn_permute.proofs.block.parities_of.Goals as goal

pub bounds-tuple-i : goal.bounds-tuple-i
bounds-tuple-i g c = omega (arith, tuple_length c.args.legs.now c.args.tuple.now c.requires.tuple)

pub charge-requires : goal.charge-requires
charge-requires g c =
    let in_range = tuple_at c.args.legs.now c.args.tuple.now c.loop-i.i c.index-legs-i.result c.requires.tuple (omega arith) in
    let sectors = ap (λ (l : LegValue). length l.sectors) c.index-legs-i.is in
    (lit< tt, (lit< tt, omega (arith, in_range, sectors)))

pub loop-i-preserved : goal.loop-i-preserved
loop-i-preserved g c =
    let fs = c.args.group.now in
    let ls = c.args.legs.now in
    let t = c.args.tuple.now in
    let i = c.loop-i.i in
    let lt : i < length ls = omega arith in
    let all = sector_parities fs ls t in
    let long : i < length all = omega (arith, parities_length fs ls t c.requires.tuple) in
    let here : c.parity.result ≡ get_or all i false =
    c.parity.ensures ∙ (ap (parity fs) (c.charge.ensures ∙ ap (λ (l : LegValue). (sector_at l.sectors (get_or t i 0)).charge) c.index-legs-i.is)
    ∙ sym (parity_there fs ls t i c.index-legs-i.result c.requires.tuple lt)) in
    c.in_ok-push.ensures.items ∙ (ap (λ x. c.loop-i.out.items ++ x ∷ []) here ∙ (ap (λ xs. xs ++ get_or all i false ∷ []) c.loop-i.invariant ∙ sym (take_more all i false long)))

pub returns : goal.returns
returns g c =
    let ls = c.args.legs.now in
    let all = sector_parities c.args.group.now ls c.args.tuple.now in
    c.loop-i.invariant ∙ take_all c.loop-i.i all (omega (arith, parities_length c.args.group.now ls c.args.tuple.now c.requires.tuple))
