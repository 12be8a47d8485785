use Rattle.std.proofs.Common.{rules, arith, ◌≡◌, ◌<◌, length, pos, get_or, w64, to_z, of_z, false}
use Rattle.qn_charge.specs.declared.factor.Factor.TheVariants.{U1}
use Rattle.std.proofs.lemmas.Grind.{common_steps}
use Rattle.std.proofs.lemmas.Int.{to_z-of_z}
use Rattle.qn_charge.specs.Charges.{canon_charge}
use Rattle.qn_charge.specs.Laws.{canonical_canon}
use Rattle.qn_charge.proofs.Parts.{group_at, canon_at, length_canon, fill_more}
use Rattle.qn_charge.proofs.group.Group.canon.Goals as goal

pub part_canon-requires : goal.part_canon-requires
part_canon-requires g c =
    let lt : c.loop-i.i < length c.args.self.now = omega arith in
    grind (arith, group_at c.args.self.now c.loop-i.i (U1 false) c.known.ensures.group lt)

pub loop-i-preserved : goal.loop-i-preserved
loop-i-preserved g c =
    let lt : c.loop-i.i < length c.args.self.now = omega arith in
    let all = canon_charge c.args.self.now c.args.c.now in
    let q : c.loop-i.i < length all = omega (arith, length_canon c.args.self.now c.args.c.now) in
    let is : to_z w64 (of_z w64 c.part_canon.result) ≡ get_or all c.loop-i.i (pos 0) = grind (arith, to_z-of_z, canon_at c.args.self.now c.args.c.now c.loop-i.i (U1 false) lt) in
    record {
      four = search (rules, c.loop-i.invariant.four);
      filled = fill_more c.loop-i.parts all c.loop-i.i _ (omega arith) q c.loop-i.invariant.filled is;
    }

pub returns-clause-value : goal.returns-clause-value
returns-clause-value g c =
    grind (arith, common_steps, length_canon c.args.self.now c.args.c.now)

pub returns-clause-canonical : goal.returns-clause-canonical
returns-clause-canonical g c =
    grind (arith, common_steps, length_canon c.args.self.now c.args.c.now, canonical_canon c.args.self.now c.args.c.now c.known.ensures.group)
