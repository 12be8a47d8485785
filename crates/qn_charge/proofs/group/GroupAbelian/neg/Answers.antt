use Rattle.std.proofs.Common.{rules, arith, ◌≡◌, ◌<◌, length, pos, ◌^◌, get_or, w64, to_z, of_z, false}
use Rattle.qn_charge.specs.declared.factor.Factor.TheVariants.{U1}
use Rattle.std.proofs.lemmas.Grind.{common_steps}
use Rattle.std.proofs.lemmas.Int.{to_z-of_z}
use Rattle.qn_charge.specs.Charges.{neg_charge}
use Rattle.qn_charge.specs.Laws.{canonical_neg}
use Rattle.qn_charge.proofs.Parts.{group_at, canonical_at, within_neg_at, neg_at, length_neg, fill_more}
use Rattle.qn_charge.proofs.group.GroupAbelian.neg.Goals as goal

pub part_neg-requires-clause-factor : goal.part_neg-requires-clause-factor
part_neg-requires-clause-factor g c =
    let lt : c.loop-i.i < length c.args.self.now = omega arith in
    grind (arith, group_at c.args.self.now c.loop-i.i (U1 false) c.known.ensures.group lt)

pub part_neg-requires-clause-canonical : goal.part_neg-requires-clause-canonical
part_neg-requires-clause-canonical g c =
    let lt : c.loop-i.i < length c.args.self.now = omega arith in
    grind (arith, to_z-of_z, canonical_at c.args.self.now c.args.a.now c.loop-i.i (U1 false) c.requires.canonical lt)

pub part_neg-requires-clause-within : goal.part_neg-requires-clause-within
part_neg-requires-clause-within g c =
    let lt : c.loop-i.i < length c.args.self.now = omega arith in
    grind (arith, to_z-of_z, within_neg_at (2 ^ 62) c.args.self.now c.args.a.now c.loop-i.i (U1 false) c.requires.within lt)

pub loop-i-preserved : goal.loop-i-preserved
loop-i-preserved g c =
    let lt : c.loop-i.i < length c.args.self.now = omega arith in
    let all = neg_charge c.args.self.now c.args.a.now in
    let q : c.loop-i.i < length all = omega (arith, length_neg c.args.self.now c.args.a.now) in
    let is : to_z w64 (of_z w64 c.part_neg.result) ≡ get_or all c.loop-i.i (pos 0) = grind (arith, to_z-of_z, neg_at c.args.self.now c.args.a.now c.loop-i.i (U1 false) lt) in
    record {
      four = search (rules, c.loop-i.invariant.four);
      filled = fill_more c.loop-i.parts all c.loop-i.i _ (omega arith) q c.loop-i.invariant.filled is;
    }

pub returns-clause-value : goal.returns-clause-value
returns-clause-value g c =
    grind (arith, common_steps, length_neg c.args.self.now c.args.a.now)

pub returns-clause-canonical : goal.returns-clause-canonical
returns-clause-canonical g c =
    grind (arith, common_steps, length_neg c.args.self.now c.args.a.now, canonical_neg c.args.self.now c.args.a.now c.known.ensures.group)
